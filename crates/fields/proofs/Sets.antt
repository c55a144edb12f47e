-- What a write to a part leaves.
use Rattle.std.proofs.Common.{◌≡◌, ℕ, zero, suc, ◌+◌, ◌/◌, ◌^◌, ◌<◌, ◌≤◌, List, length, refl, ap, pow-suc, arith, rules}
use Rattle.std.proofs.lemmas.List.{places, same_lists}
use Rattle.layouts.specs.Numbers.{little, part}
use Rattle.fields.specs.Set.{bytes_of, set_at}

pub length-bytes : (k n : ℕ) → length (bytes_of k n) ≡ k
length-bytes zero n = refl
length-bytes (suc k) n = ap suc (length-bytes k (n / 256))

pub little_bytes : (k n : ℕ) → n < 256 ^ k → little (bytes_of k n) ≡ n
little_bytes zero n h = omega arith
little_bytes (suc k) n h =
    let q : n / 256 < 256 ^ k = omega (arith, pow-suc 256 k) in
    omega (arith, little_bytes k (n / 256) q)

module _ (bs : List ℕ) (at : ℕ) (new : List ℕ) (h : at + length new ≤ length bs) where
  pub length-set : length (set_at bs at new) ≡ length bs
  length-set = search (rules, places)

  pub part_set : part (set_at bs at new) at (length new) ≡ new
  part_set = same_lists _ _ (search (rules, places)) (λ k d l. grind (arith, places))

  pub part_before : (p n : ℕ) → p + n ≤ at → part (set_at bs at new) p n ≡ part bs p n
  part_before p n l = same_lists _ _ (search (rules, places)) (λ k d i. grind (arith, places))

  pub part_after : (p n : ℕ) → at + length new ≤ p → part (set_at bs at new) p n ≡ part bs p n
  part_after p n l = same_lists _ _ (search (rules, places)) (λ k d i. grind (arith, places))
