-- Numbers in a body are those that the library reads.
use Rattle.std.proofs.Common.{◌≡◌, ℕ, zero, suc, ◌+◌, ◌*◌, List, [], ◌∷◌, take, drop, refl, ap, ◌∙◌, arith}
use Rattle.byteorder.specs.Endian.{little_from, little_number}
use Rattle.byteorder.specs.Numbers.{little_from-cons}
use Rattle.layouts.specs.Numbers.{little, number}

nothing : (i n : ℕ) → little_from i n [] ≡ 0
nothing i zero = refl
nothing i (suc n) = omega (arith, nothing (suc i) n)

little_read : (n : ℕ) (bs : List ℕ) → little_number n bs ≡ little (take n bs)
little_read zero bs = refl
little_read (suc n) [] = nothing 0 (suc n)
little_read (suc n) (b ∷ bs) = ap (λ (x : ℕ). b + 256 * x) (little_from-cons 0 n b bs ∙ little_read n bs)

-- what is read at a place is the number there
pub number_read : (bs : List ℕ) (at n : ℕ) → little_number n (drop at bs) ≡ number bs at n
number_read bs at n = little_read n (drop at bs)
