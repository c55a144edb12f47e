-- The letters of members.
use Rattle.std.specs.Prelude.{ℕ, ◌+◌, cond, List, [], ◌∷◌, length, take, Some, None, Option, nat_lt, slice_index_or}
use Rattle.layouts.specs.declared.letters.Letter.{Letter}
use Rattle.layouts.specs.declared.letters.Letter.TheVariants.{D, F, L, W, S, B, R}

-- how many bytes a member has
abbrev pub size : Letter → ℕ
size D = 8
size F = 4
size L = 4
size W = 2
size S = 2
size B = 1
size (R n) = n

-- how many bytes members have together
abbrev pub total : List Letter → ℕ
total [] = 0
total (l ∷ ls) = size l + total ls

-- a field's place and letter; fields count from 0 as they follow
abbrev pub field_of : List Letter → ℕ → Option (ℕ × Letter)
field_of ls n = cond (nat_lt n (length ls)) (Some (total (take n ls), slice_index_or ls n D)) None
