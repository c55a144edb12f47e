-- The listing as a relation, for induction: `Lists m cs p rows` says that the rows are those from the place p on.
use Rattle.std.proofs.Common.{◌≡◌, ℕ, zero, suc, ◌+◌, ◌<◌, ◌≤◌, List, [], ◌∷◌, length, Some, None, Option, sym, refl, ap, ◌∙◌, inl, inr, arith}
use Rattle.std.proofs.lemmas.Bool.{le-ltb, cases_lt}
use Rattle.recording.specs.declared.Cell.{Cell}
use Rattle.records.specs.declared.kind.Record.{Record}
use Rattle.indexfile.specs.declared.row.Row.{Row}
use Rattle.records.specs.Records.{Meaning, Laws}
use Rattle.listing.specs.Listing.{row_at, turns, listing_from}
use Rattle.std.proofs.lemmas.Grind.{common_steps}

pub data Lists (m : Meaning) (cs : List Cell) : ℕ → List Row → Type 0 where
  at_end : {p : ℕ} → length cs ≤ p → Lists m cs p []
  at_cell : {p : ℕ} {rows : List Row} → p < length cs → m cs p ≡ None → Lists m cs (p + 1) rows → Lists m cs p rows
  at_record : {p : ℕ} {rows : List Row} → (x : Record) → m cs p ≡ Some x → Lists m cs (p + x.length) rows → Lists m cs p (row_at p x ∷ rows)

-- one turn
pub turn_end : (m : Meaning) (cs : List Cell) (n p : ℕ) → length cs ≤ p → turns m cs n p ≡ []
unfolding turns
turn_end m cs zero p h = refl
turn_end m cs (suc n) p h = rw (le-ltb p (length cs) h, turns)

pub turn_cell : (m : Meaning) (cs : List Cell) (n p : ℕ) → p < length cs → m cs p ≡ None → turns m cs (suc n) p ≡ turns m cs n (p + 1)
unfolding turns
turn_cell m cs n p h e = grind (arith, common_steps)

pub turn_record : (m : Meaning) (cs : List Cell) (n p : ℕ) (x : Record) → p < length cs → m cs p ≡ Some x → turns m cs (suc n) p ≡ row_at p x ∷ turns m cs n (p + x.length)
unfolding turns
turn_record m cs n p x h e = grind (arith, common_steps)

module _ {M : ℕ} {m : Meaning} (laws : Laws M m) (cs : List Cell) where
  pub turns_list : (n p : ℕ) → length cs ≤ p + n → Lists m cs p (turns m cs n p)
  turns_list zero p h = let l : length cs ≤ p = omega arith in rw (turn_end m cs zero p l) (at_end l)
  turns_list (suc n) p h = elim (cases_lt p (length cs)) [ inl l ↦ go (turns_list n) l (m cs p) refl | inr l ↦ rw (turn_end m cs (suc n) p l) (at_end l) ]
    where
      go : ((q : ℕ) → length cs ≤ q + n → Lists m cs q (turns m cs n q)) → p < length cs → (o : Option Record) → m cs p ≡ o → Lists m cs p (turns m cs (suc n) p)
      go next l None e = rw (turn_cell m cs n p l e) (at_cell l e (next (p + 1) (omega arith)))
      go next l (Some x) e = rw (turn_record m cs n p x l e) (at_record x e (next (p + x.length) (omega (arith, laws.inside cs p x e))))

  -- what stands first
  pub rows_end : {p : ℕ} {rows : List Row} → Lists m cs p rows → length cs ≤ p → rows ≡ []
  rows_end (at_end h) l = refl
  rows_end (at_cell h e r) l = absurd (omega arith)
  rows_end (at_record {p} x e r) l = absurd (omega (arith, laws.inside cs p x e))

  pub rows_cell : {p : ℕ} {rows : List Row} → Lists m cs p rows → p < length cs → m cs p ≡ None → Lists m cs (p + 1) rows
  rows_cell (at_end h) l e = absurd (omega arith)
  rows_cell (at_cell h e' r) l e = r
  rows_cell (at_record x e' r) l e = let z : ◌≡◌ {A = ℕ} 0 1 = cc in absurd (omega arith)

  pub rows_record : {p : ℕ} {rows : List Row} → Lists m cs p rows → (x : Record) → m cs p ≡ Some x → (rest : List Row) × (rows ≡ row_at p x ∷ rest) × Lists m cs (p + x.length) rest
  rows_record (at_end {p} h) x e = absurd (omega (arith, laws.inside cs p x e))
  rows_record (at_cell h e' r) x e = let z : ◌≡◌ {A = ℕ} 0 1 = cc in absurd (omega arith)
  rows_record (at_record {p} {rows} y e' r) x e = let s : y ≡ x = cc in (rows, ap (λ z. row_at p z ∷ rows) s, rw s at r)

  -- there is one listing from each place
  pub lists_one : {p : ℕ} {r s : List Row} → Lists m cs p r → Lists m cs p s → r ≡ s
  lists_one (at_end h) t = sym (rows_end t h)
  lists_one (at_cell h e r) t = lists_one r (rows_cell t h e)
  lists_one (at_record {p} x e r) t = let (rest, s, u) = rows_record t x e in ap (λ z. row_at p x ∷ z) (lists_one r u) ∙ sym s

  pub lists_from : (p : ℕ) → Lists m cs p (listing_from m cs p)
  lists_from p = turns_list (length cs) p (omega arith)

  pub from_lists : {p : ℕ} {rows : List Row} → Lists m cs p rows → rows ≡ listing_from m cs p
  from_lists {p} r = lists_one r (lists_from p)
