-- The search for a record that crosses a boundary.
use Rattle.std.proofs.Common.{◌≡◌, ℕ, zero, suc, ◌+◌, ◌-◌, ◌<◌, ◌≤◌, true, false, List, Some, None, sym, refl, ap, ◌∙◌, add-one, arith}
use Rattle.recording.specs.declared.Cell.{Cell}
use Rattle.records.specs.Records.{Meaning, Laws}
use Rattle.listing.specs.Clearing.{ends_after, first_crossing}
use Rattle.std.proofs.lemmas.Grind.{common_steps}

module _ (m : Meaning) (cs : List Cell) (b : ℕ) where
  pub none_left : (n p : ℕ) → n ≡ 0 → first_crossing m cs b n p ≡ None
  unfolding first_crossing
  none_left zero p z = refl
  none_left (suc n) p z = absurd (omega arith)

  pub here : (n p : ℕ) → 0 < n → ends_after b p (m cs p) ≡ true → first_crossing m cs b n p ≡ Some p
  unfolding first_crossing
  here zero p z e = absurd (omega arith)
  here (suc n) p z e = rw e

  pub past : (p : ℕ) → ends_after b p (m cs p) ≡ false → first_crossing m cs b (b - p) p ≡ first_crossing m cs b (b - (p + 1)) (p + 1)
  unfolding first_crossing
  past p e = grind (arith, common_steps)

  module _ {M : ℕ} (laws : Laws M m) where
    too_early : (p : ℕ) → p + M ≤ b → ends_after b p (m cs p) ≡ false
    too_early p h = grind (arith, common_steps)

    -- no record that begins before the last M - 1 places reaches over the boundary
    pub late : (from : ℕ) → ((q : ℕ) → q < from → q + M ≤ b) → first_crossing m cs b (b - from) from ≡ first_crossing m cs b b 0
    late zero h = ap (λ n. first_crossing m cs b n 0) (omega arith)
    late (suc q) h = rw (← add-one q) (sym (past q (too_early q (h q (omega arith)))) ∙ late q (λ i l. h i (omega arith)))
