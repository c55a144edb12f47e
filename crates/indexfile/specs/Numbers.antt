-- Numbers in bytes, the least significant byte first.
-- They are said again, as in layouts and fields: index files need nothing of the rest.
use Rattle.std.specs.Prelude.{ℕ, zero, suc, ◌+◌, ◌*◌, ◌/◌, ◌%◌, List, [], ◌∷◌, ◌++◌, length, take, drop}

-- the number that bytes write
abbrev pub little : List ℕ → ℕ
little [] = 0
little (b ∷ bs) = b + 256 * little bs

-- the number in the n bytes at a place
abbrev pub number : List ℕ → ℕ → ℕ → ℕ
number bs at n = little (take n (drop at bs))

-- a number's k bytes
abbrev pub bytes_of : ℕ → ℕ → List ℕ
bytes_of zero n = []
bytes_of (suc k) n = n % 256 ∷ bytes_of k (n / 256)

-- new bytes at a place, all others as they were
abbrev pub set_at : List ℕ → ℕ → List ℕ → List ℕ
set_at bs at new = take at bs ++ (new ++ drop (at + length new) bs)
