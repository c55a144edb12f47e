-- What the answers of clear say of a boundary.
use Rattle.std.proofs.Common.{◌≡◌, ℕ, zero, suc, ◌+◌, ◌<◌, ◌≤◌, Bool, true, false, cond, List, length, Some, None, Ok, Err, Option, Result, sym, refl, ap, ◌∙◌, subst, arith, ltb-false, ltb-true}
use borrow.Author.Tests.{clash}
use Rattle.std.proofs.lemmas.Bool.{lt-ltb}
use Rattle.recording.specs.declared.Cell.{Cell}
use Rattle.records.specs.declared.kind.Record.{Record}
use Rattle.records.specs.Records.{Meaning, Laws}
use Rattle.listing.specs.declared.answer.ClearRefusal.{ClearRefusal}
use Rattle.listing.specs.declared.answer.ClearRefusal.TheVariants.{ShortTable, PastEnd}
use Rattle.listing.specs.Listing.{Clear, Crosses}
use Rattle.listing.specs.Progress.{Progress}
use Rattle.listing.specs.Clearing.{ends_after, first_crossing, cleared, clearing, Tells}
use Rattle.std.proofs.lemmas.Grind.{common_steps}

module _ (m : Meaning) (cs : List Cell) (b : ℕ) where
  -- no record of the places from p up to q ends after the boundary
  abbrev Short : ℕ → ℕ → Type 0
  Short p q = (i : ℕ) → p ≤ i → i < q → ends_after b i (m cs i) ≡ false

  short_more : (p q : ℕ) → ends_after b p (m cs p) ≡ false → Short (p + 1) q → Short p q
  short_more p q e h i lo hi = grind (arith, common_steps)

  first_yes : (n p : ℕ) → first_crossing m cs b n p ≡ None → Short p (p + n)
  unfolding first_crossing
  first_yes zero p e = λ q lo hi. absurd (omega arith)
  first_yes (suc n) p e = go (ends_after b p (m cs p)) refl e (first_yes n (p + 1))
    where
      go : (t : Bool) → ends_after b p (m cs p) ≡ t → cond t (Some p) (first_crossing m cs b n (p + 1)) ≡ None → (first_crossing m cs b n (p + 1) ≡ None → Short (p + 1) (p + 1 + n)) → Short p (p + suc n)
      go true h z more = let f : ◌≡◌ {A = ℕ} 0 1 = cc in absurd (omega arith)
      go false h z more = short_more p (p + suc n) h (λ q lo hi. more z q lo (omega arith))

  first_crossed : (n p c : ℕ) → first_crossing m cs b n p ≡ Some c → (p ≤ c) × (c < p + n) × (ends_after b c (m cs c) ≡ true) × Short p c
  unfolding first_crossing
  first_crossed zero p c e = let f : ◌≡◌ {A = ℕ} 0 1 = cc in absurd (omega arith)
  first_crossed (suc n) p c e = go (ends_after b p (m cs p)) refl e (first_crossed n (p + 1) c)
    where
      go : (t : Bool) → ends_after b p (m cs p) ≡ t → cond t (Some p) (first_crossing m cs b n (p + 1)) ≡ Some c → (first_crossing m cs b n (p + 1) ≡ Some c → (p + 1 ≤ c) × (c < p + 1 + n) × (ends_after b c (m cs c) ≡ true) × Short (p + 1) c) → (p ≤ c) × (c < p + suc n) × (ends_after b c (m cs c) ≡ true) × Short p c
      go true h z more =
          let same : p ≡ c = cc in
          (omega arith, omega arith, subst (λ j. ends_after b j (m cs j) ≡ true) same h, λ q lo hi. absurd (omega arith))
      go false h z more = let k = more z in (omega (arith, k.0), omega (arith, k.1), k.2, short_more p c h k.3)

  pub yes_clear : b ≤ length cs → cleared m cs b ≡ None → Clear m cs b
  yes_clear h e = record {
    within = h;
    uncrossed = λ p x at lt. ltb-false b (p + x.length) (sym (ap (ends_after b p) at) ∙ first_yes b 0 e p (omega arith) (omega arith));
  }

  pub crossed_lowest : (c : ℕ) → cleared m cs b ≡ Some c → Crosses m cs b c
  crossed_lowest c e =
      let k = first_crossed b 0 c e in
      record {
        begins = omega (arith, k.1);
        ends = go (m cs c) refl k.2;
        lowest = λ p x at lt. ltb-false b (p + x.length) (sym (ap (ends_after b p) at) ∙ k.3 p (omega arith) lt);
      }
    where
      go : (o : Option Record) → m cs c ≡ o → ends_after b c o ≡ true → (x : Record) × (m cs c ≡ Some x) × (b < c + x.length)
      go None at t = absurd (clash t)
      go (Some x) at t = (x, at, ltb-true b (c + x.length) t)

  -- a boundary that a record crosses is not clear, and is crossed at one lowest place
  not_both : (p : ℕ) → Clear m cs b → Crosses m cs b p → ⊥
  not_both p k w = grind (arith, common_steps)

  one_lowest : (p q : ℕ) → Crosses m cs b p → Crosses m cs b q → p ≡ q
  one_lowest p q v w = grind (arith, common_steps)

  -- the three ways of a call
  module _ (s : Progress) where
    short : length s.table < s.rows → clearing m cs b s ≡ Err ShortTable
    short h = rw (lt-ltb (length s.table) s.rows h)

    pub past : s.rows ≤ length s.table → length cs < b → clearing m cs b s ≡ Err PastEnd
    past r h = grind (arith, common_steps)

    welcome : s.rows ≤ length s.table → b ≤ length cs → clearing m cs b s ≡ Ok (cleared m cs b)
    welcome r h = grind (arith, common_steps)

    refused : (e : ClearRefusal) (c : Option ℕ) → clearing m cs b s ≡ Err e → clearing m cs b s ≡ Ok c → ⊥
    refused e c f g = grind (arith, common_steps)

    -- an answer was welcome
    answered : (c : Option ℕ) → clearing m cs b s ≡ Ok c → (s.rows ≤ length s.table) × (b ≤ length cs) × (cleared m cs b ≡ c)
    answered c e = grind (arith, common_steps)

    pub tells : {M : ℕ} → Laws M m → Tells m cs b s (clearing m cs b s)
    tells laws = record { yes = (said_yes, is_clear); crossed = λ p. (said_crossed p, is_crossed p) }
      where
        said_yes : clearing m cs b s ≡ Ok None → (s.rows ≤ length s.table) × Clear m cs b
        said_yes e = let (r, h, c) = answered None e in (r, yes_clear h c)

        said_crossed : (p : ℕ) → clearing m cs b s ≡ Ok (Some p) → (s.rows ≤ length s.table) × Crosses m cs b p
        said_crossed p e = let (r, h, c) = answered (Some p) e in (r, crossed_lowest p c)

        is_clear : (s.rows ≤ length s.table) × Clear m cs b → clearing m cs b s ≡ Ok None
        is_clear (r, k) = welcome r k.within ∙ ap (λ z. Ok z) (go (cleared m cs b) refl)
          where
            go : (a : Option ℕ) → cleared m cs b ≡ a → cleared m cs b ≡ None
            go None e = e
            go (Some p) e = absurd (not_both p k (crossed_lowest p e))

        is_crossed : (p : ℕ) → (s.rows ≤ length s.table) × Crosses m cs b p → clearing m cs b s ≡ Ok (Some p)
        is_crossed p (r, w) = welcome r within ∙ ap (λ z. Ok z) (go (cleared m cs b) refl)
          where
            within : b ≤ length cs
            within = omega (arith, laws.inside cs p w.ends.0 w.ends.1, w.ends.2)

            go : (a : Option ℕ) → cleared m cs b ≡ a → cleared m cs b ≡ Some p
            go None e = absurd (not_both p (yes_clear within e) w)
            go (Some q) e = e ∙ ap Some (one_lowest q p (crossed_lowest q e) w)

pub told : {M : ℕ} {m : Meaning} → Laws M m → (cs : List Cell) (b : ℕ) (s : Progress) (r : Result (Option ℕ) ClearRefusal) → r ≡ clearing m cs b s → Tells m cs b s r
told {m = m} laws cs b s r e = grind (arith, common_steps, tells)
