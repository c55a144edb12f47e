-- Letters and the members that stand, one after the other.
use Rattle.std.proofs.Common.{◌≡◌, ℕ, zero, suc, ◌+◌, ◌<◌, ◌≤◌, Bool, true, false, cond, ltb, List, [], ◌∷◌, length, get_or, sum_by, take, Some, None, Option, IfSome, refl, arith}
use Rattle.std.proofs.lemmas.List.Recursion.{is_sum_by}
use Rattle.std.proofs.lemmas.Bool.{ltb-true}
use Rattle.layouts.specs.declared.letters.Letter.{Letter}
use Rattle.layouts.specs.declared.letters.Letter.TheVariants.{D}
use Rattle.layouts.specs.Letters.{size, total, field_of}

pub total_sum : (ls : List Letter) → total ls ≡ sum_by size ls
total_sum ls = is_sum_by total size refl (λ x xs. refl) ls

total_within : (ls : List Letter) (n : ℕ) → n < length ls → total (take n ls) + size (get_or ls n D) ≤ total ls
total_within [] n h = omega arith
total_within (l ∷ ls) zero h = omega arith
total_within (l ∷ ls) (suc n) h =
    let k : n < length ls = omega arith in
    omega (arith, total_within ls n k)

-- a field ends within its letters
pub field_within : (ls : List Letter) (n : ℕ) (p : ℕ × Letter) → Some p ≡ field_of ls n → p.0 + size p.1 ≤ total ls
field_within ls n p = go (ltb n (length ls)) (λ e. total_within ls n (ltb-true n (length ls) e))
  where
    go : (b : Bool) → (b ≡ true → total (take n ls) + size (get_or ls n D) ≤ total ls) → Some p ≡ cond b (Some (total (take n ls), get_or ls n D)) None → p.0 + size p.1 ≤ total ls
    go true h e =
        let same : p ≡ (total (take n ls), get_or ls n D) = cc in
        rw same (h refl)
    go false h e = cc

-- the same of a body that is as long as its letters
pub within_body : (ls : List Letter) (n m : ℕ) (r : Option (ℕ × Letter)) → r ≡ field_of ls n → m ≡ total ls → IfSome r (λ p. p.0 + size p.1 ≤ m)
within_body ls n m None e l = tt
within_body ls n m (Some p) e l = omega (arith, field_within ls n p e)
