-- The listing by what it chooses, with no word of the order in which it is found.
use Rattle.std.proofs.Common.{◌≡◌, ℕ, zero, suc, ◌+◌, ◌<◌, ◌≤◌, Bool, true, false, eqb, List, ◌∷◌, Some, sym, refl, ap, ◌∙◌, inl, inr, arith}
use Rattle.std.proofs.lemmas.Bool.{eqb-true, eqb-false, eq-eqb, ne_eqb, or_cases, or_parts, or_from, or_left, or_right, both_ways, cases_eq, cases_lt, cases_Bool}
use Rattle.recording.specs.declared.Cell.{Cell}
use Rattle.records.specs.declared.kind.Record.{Record}
use Rattle.indexfile.specs.declared.row.Row.{Row}
use Rattle.records.specs.Records.{Meaning, Laws}
use Rattle.listing.specs.Listing.{row_at, listing, listed_at, Covered, Chooses}
use Rattle.listing.proofs.Lists.{Lists, at_end, at_cell, at_record, lists_from}
use Rattle.std.proofs.lemmas.Grind.{common_steps}

-- a listed place is at the start or later, and a record stands there
pub listed_late : {m : Meaning} {cs : List Cell} {p : ℕ} {rows : List Row} → Lists m cs p rows → (q : ℕ) → listed_at rows q ≡ true → p ≤ q
listed_late (at_end h) q e = absurd (both_ways false refl e)
listed_late (at_cell h s r) q e = omega (arith, listed_late r q e)
listed_late (at_record {p} {rows} x s r) q e = elim (or_cases (eqb p q) (listed_at rows q) e) [ inl t ↦ omega (arith, eqb-true p q t) | inr t ↦ omega (arith, listed_late r q t) ]

pub listed_stands : {m : Meaning} {cs : List Cell} {p : ℕ} {rows : List Row} → Lists m cs p rows → (q : ℕ) → listed_at rows q ≡ true → (x : Record) × (m cs q ≡ Some x)
listed_stands (at_end h) q e = absurd (both_ways false refl e)
listed_stands (at_cell h s r) q e = listed_stands r q e
listed_stands {m} {cs} (at_record {p} {rows} x s r) q e = elim (or_cases (eqb p q) (listed_at rows q) e) [ inl t ↦ (x, sym (ap (m cs) (eqb-true p q t)) ∙ s) | inr t ↦ listed_stands r q t ]

module _ {M : ℕ} {m : Meaning} (laws : Laws M m) (cs : List Cell) where
  -- a record from the start on that is not listed is covered
  covered : {p : ℕ} {rows : List Row} → Lists m cs p rows → (q : ℕ) (y : Record) → m cs q ≡ Some y → p ≤ q → listed_at rows q ≡ false → Covered m cs (listed_at rows) q
  covered (at_end h) q y e l n = absurd (omega (arith, laws.inside cs q y e))
  covered (at_cell {p} h s r) q y e l n = elim (cases_eq p q) [ inl t ↦ (let z : ◌≡◌ {A = ℕ} 0 1 = cc in absurd (omega arith)) | inr t ↦ covered r q y e (omega arith) n ]
  covered (at_record {p} {rows} x s r) q y e l n = elim (cases_lt q (p + x.length)) [ inl t ↦ here t | inr t ↦ later (covered r q y e t (or_parts (eqb p q) (listed_at rows q) n).1) ]
    where
      here : q < p + x.length → Covered m cs (listed_at (row_at p x ∷ rows)) q
      here t =
          let u = eqb-false p q (or_parts (eqb p q) (listed_at rows q) n).0 in
          (p, x, or_left (eqb p p) (listed_at rows p) (eq-eqb p p refl), s, omega (arith, u), t)

      later : Covered m cs (listed_at rows) q → Covered m cs (listed_at (row_at p x ∷ rows)) q
      later c = (c.0, c.1, or_right (eqb p c.0) (listed_at rows c.0) c.2, c.3, c.4, c.5)

  -- no listed record covers another
  uncovered : {p : ℕ} {rows : List Row} → Lists m cs p rows → (q : ℕ) (y : Record) → m cs q ≡ Some y → listed_at rows q ≡ true → (k : ℕ) → q < k → k < q + y.length → listed_at rows k ≡ false
  uncovered (at_end h) q y e t k i j = refl
  uncovered (at_cell {p} h s r) q y e t k i j = uncovered r q y e t k i j
  uncovered (at_record {p} {rows} x s r) q y e t k i j = elim (or_cases (eqb p q) (listed_at rows q) t) [ inl u ↦ inside (eqb-true p q u) | inr u ↦ past (listed_late r q u) (uncovered r q y e u k i j) ]
    where
      past : p + x.length ≤ q → listed_at rows k ≡ false → listed_at (row_at p x ∷ rows) k ≡ false
      past l u = or_from (eqb p k) (listed_at rows k) (ne_eqb p k (omega arith)) u

      inside : p ≡ q → listed_at (row_at p x ∷ rows) k ≡ false
      inside u =
          let v : m cs p ≡ m cs q = ap (m cs) u in
          let w : x ≡ y = cc in
          let d : x.length ≡ y.length = ap (λ z. z.length) w in
          or_from (eqb p k) (listed_at rows k) (ne_eqb p k (omega arith)) (elim (cases_Bool (listed_at rows k)) [ inl b ↦ absurd (omega (arith, listed_late r k b)) | inr b ↦ b ])

  pub listing_chooses : Chooses m cs (listed_at (listing m cs))
  listing_chooses = record { stands = listed_stands all; left_out = λ p x e. (covered all p x e (omega arith), λ c. uncovered all c.0 c.1 c.3 c.2 p c.4 c.5) }
    where
      all : Lists m cs 0 (listing m cs)
      all = lists_from laws cs 0

-- there is one such set
leads : {m : Meaning} {cs : List Cell} {f g : ℕ → Bool} → Chooses m cs f → Chooses m cs g → (p : ℕ) → ((q : ℕ) → q < p → f q ≡ g q) → f p ≡ true → g p ≡ true
leads {g = g} F G p same t = grind (arith, common_steps)

pub chosen_one : {m : Meaning} {cs : List Cell} {f g : ℕ → Bool} → Chooses m cs f → Chooses m cs g → (p : ℕ) → f p ≡ g p
chosen_one {f = f} {g = g} F G p = below (suc p) p (omega arith)
  where
    below : (n q : ℕ) → q < n → f q ≡ g q
    below zero q l = absurd (omega arith)
    below (suc n) q l = go (λ k h. below n k (omega arith)) (f q) refl (g q) refl
      where
        go : ((k : ℕ) → k < q → f k ≡ g k) → (u : Bool) → f q ≡ u → (v : Bool) → g q ≡ v → f q ≡ g q
        go same true i v j = i ∙ sym (leads F G q same i)
        go same false i true j = leads G F q (λ k h. sym (same k h)) j ∙ sym j
        go same false i false j = i ∙ sym j

pub listing_chosen : {M : ℕ} {m : Meaning} → Laws M m → (cs : List Cell) (member : ℕ → Bool) → Chooses m cs member → (p : ℕ) → member p ≡ listed_at (listing m cs) p
listing_chosen laws cs member F = chosen_one F (listing_chooses laws cs)
