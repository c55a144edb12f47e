-- User-defined bodies.
use Rattle.std.specs.Prelude.{ℕ, ◌+◌, Bool, true, false, cond, not, List, [], ◌∷◌, length, take, drop, Some, None, Ok, Err, codes, Option, Result, ◌==◌, nat_eq}
use Rattle.std.specs.Option.{option_map, ok_or}
use Rattle.bodies.specs.declared.fault.UserFault.{UserFault}
use Rattle.bodies.specs.declared.fault.UserFault.TheVariants as fault
use Rattle.bodies.specs.declared.user.UserParts.{UserParts}
use Rattle.layouts.specs.Checks.{and_then}

-- one of a list
abbrev pub among : ℕ → List ℕ → Bool
among c [] = false
among c (x ∷ xs) = cond (c == x) true (among c xs)

-- the ten letters of a Format
abbrev pub is_letter : ℕ → Bool
is_letter c = among c (codes "ABFILEHNDS")

-- the index of the first that passes, counted from i
abbrev pub first_from : (ℕ → Bool) → ℕ → List ℕ → Option ℕ
first_from P i [] = None
first_from P i (b ∷ bs) = cond (P b) (Some i) (first_from P (i + 1) bs)

-- where the first zero byte stands
abbrev pub zero_at : List ℕ → Option ℕ
zero_at bs = first_from (λ b. nat_eq b 0) 0 bs

-- where the first byte stands that is no letter
abbrev pub first_wrong : List ℕ → Option ℕ
first_wrong bs = first_from (λ b. not (is_letter b)) 0 bs

-- what stands before the first zero byte, and what stands past it
abbrev pub cut_of : List ℕ → Option (List ℕ × List ℕ)
cut_of bs = option_map (λ i. (take i bs, drop (i + 1) bs)) (zero_at bs)

-- Name, Format and Data, whoever holds their bytes
pub record Three : Type 0 where
  pub name : List ℕ
  pub format : List ℕ
  pub data_bytes : List ℕ

-- the parts, once the Name is known
abbrev pub second : List ℕ → Option (List ℕ × List ℕ) → Option Three
second name p = option_map (λ q. record { name = name; format = q.0; data_bytes = q.1 }) p

-- the parts, once the Name was looked for
abbrev pub three_after : Option (List ℕ × List ℕ) → Option Three
three_after None = None
three_after (Some p) = second p.0 (cut_of p.1)

-- Name and Format, each up to a zero byte, and all that follows
abbrev pub three_of : List ℕ → Option Three
three_of bs = three_after (cut_of bs)

-- the parts in code, as their bytes
abbrev pub held_in : UserParts → Three
held_in p = record { name = p.name.now; format = p.format.now; data_bytes = p.«data».now }

-- zero bytes come before letters
abbrev pub unless_wrong : Three → Option ℕ → Result Three UserFault
unless_wrong t None = Ok t
unless_wrong t (Some i) = Err (fault.Letter (length t.name + 1 + i))

-- the parts of a sound body
abbrev pub user_of : List ℕ → Result Three UserFault
user_of bs = and_then (ok_or (three_of bs) (fault.NoZero (length bs))) (λ t. unless_wrong t (first_wrong t.format))
