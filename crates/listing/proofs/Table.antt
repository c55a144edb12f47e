-- The listing as a table: its rows in order, and no other table has what it has.
use Rattle.std.proofs.Common.{◌≡◌, ℕ, suc, ◌<◌, ◌≤◌, true, false, eqb, ◌↔◌, List, [], ◌∷◌, sym, refl, ap, ◌∙◌, inl, inr, arith}
use Rattle.std.specs.List.{AllByRecursion}
use Rattle.std.proofs.lemmas.Bool.{eqb-true, ne_eqb, or_cases, both_ways, cases_eq}
use Rattle.recording.specs.declared.Cell.{Cell}
use Rattle.indexfile.specs.declared.row.Row.{Row}
use Rattle.records.specs.Records.{Meaning, Laws}
use Rattle.listing.specs.Listing.{listing, listed_at, Standing, Ascending, Tabulates}
use Rattle.listing.proofs.Lists.{Lists, at_end, at_cell, at_record, lists_from}
use Rattle.listing.proofs.Chosen.{listing_chooses, chosen_one}
use Rattle.std.proofs.lemmas.Grind.{common_steps}

rows_late : {m : Meaning} {cs : List Cell} {p : ℕ} {rows : List Row} → Lists m cs p rows → (b : ℕ) → b ≤ p → AllByRecursion (λ r. b ≤ r.place) rows
rows_late (at_end h) b l = tt
rows_late (at_cell h e r) b l = rows_late r b (omega arith)
rows_late (at_record x e r) b l = (l, rows_late r b (omega arith))

pub rows_made : {m : Meaning} {cs : List Cell} {p : ℕ} {rows : List Row} → Lists m cs p rows → AllByRecursion (Standing m cs) rows
rows_made (at_end h) = tt
rows_made (at_cell h e r) = rows_made r
rows_made (at_record x e r) = ((x, e, refl), rows_made r)

pub rows_ordered : {M : ℕ} {m : Meaning} → Laws M m → {cs : List Cell} {p : ℕ} {rows : List Row} → Lists m cs p rows → Ascending rows
rows_ordered laws (at_end h) = tt
rows_ordered laws (at_cell h e r) = rows_ordered laws r
rows_ordered laws {cs} (at_record {p} x e r) = (rows_late r (suc p) (omega (arith, laws.inside cs p x e)), rows_ordered laws r)

pub listing_tabulates : {M : ℕ} {m : Meaning} → Laws M m → (cs : List Cell) → Tabulates m cs (listing m cs)
listing_tabulates laws cs = record { made = rows_made (lists_from laws cs 0); ordered = rows_ordered laws (lists_from laws cs 0); chosen = listing_chooses laws cs }

-- a listed place is not before the first row's
listed_after : (a : ℕ) (rows : List Row) → AllByRecursion (λ r. a < r.place) rows → (p : ℕ) → listed_at rows p ≡ true → a < p
listed_after a [] h p e = absurd (both_ways false refl e)
listed_after a (r ∷ rows) h p e = elim (or_cases (eqb r.place p) (listed_at rows p) e) [ inl t ↦ omega (arith, eqb-true r.place p t, h.0) | inr t ↦ listed_after a rows h.1 p t ]

listed_from : (r : Row) (rows : List Row) → Ascending (r ∷ rows) → (p : ℕ) → listed_at (r ∷ rows) p ≡ true → r.place ≤ p
listed_from r rows h p e = elim (or_cases (eqb r.place p) (listed_at rows p) e) [ inl t ↦ omega (arith, eqb-true r.place p t) | inr t ↦ omega (arith, listed_after r.place rows h.0 p t) ]

listed_first : (r : Row) (rows : List Row) → listed_at (r ∷ rows) r.place ≡ true
listed_first r rows = grind (arith, common_steps)

listed_rest : (r : Row) (rows : List Row) (p : ℕ) → (r.place ≡ p → ⊥) → listed_at (r ∷ rows) p ≡ listed_at rows p
listed_rest r rows p n = rw (ne_eqb r.place p n)

not_again : (a : ℕ) (rows : List Row) → AllByRecursion (λ r. a < r.place) rows → listed_at rows a ≡ false
not_again a rows h = grind (arith, common_steps, listed_after)

module _ (m : Meaning) (cs : List Cell) where
  one_row : (r s : Row) → Standing m cs r → Standing m cs s → r.place ≡ s.place → r ≡ s
  one_row r s f g e = grind (arith, common_steps)

  same_table : (rs ss : List Row) → AllByRecursion (Standing m cs) rs → AllByRecursion (Standing m cs) ss → Ascending rs → Ascending ss → ((p : ℕ) → listed_at rs p ≡ listed_at ss p) → rs ≡ ss
  same_table [] [] f g h i same = refl
  same_table [] (s ∷ ss) f g h i same = absurd (both_ways false refl (same s.place ∙ listed_first s ss))
  same_table (r ∷ rs) [] f g h i same = absurd (both_ways false refl (sym (same r.place) ∙ listed_first r rs))
  same_table (r ∷ rs) (s ∷ ss) f g h i same = ap (λ z. z ∷ rs) (one_row r s f.0 g.0 e) ∙ ap (λ z. s ∷ z) (same_table rs ss f.1 g.1 h.1 i.1 rest)
    where
      e : r.place ≡ s.place
      e = omega (arith, listed_from r rs h s.place (same s.place ∙ listed_first s ss), listed_from s ss i r.place (sym (same r.place) ∙ listed_first r rs))

      rest : (p : ℕ) → listed_at rs p ≡ listed_at ss p
      rest p = elim (cases_eq r.place p) [
        | inl t ↦ (rw t at (not_again r.place rs h.0)) ∙ sym (rw (sym e ∙ t) at (not_again s.place ss i.0))
        | inr t ↦ sym (listed_rest r rs p t) ∙ same p ∙ listed_rest s ss p (λ u. t (e ∙ u))
      ]

  pub table_one : (rs ss : List Row) → Tabulates m cs rs → Tabulates m cs ss → rs ≡ ss
  table_one rs ss f g = same_table rs ss f.made g.made f.ordered g.ordered (chosen_one f.chosen g.chosen)

pub listing_is : {M : ℕ} {m : Meaning} → Laws M m → (cs : List Cell) (rows : List Row) → Tabulates m cs rows ↔ (rows ≡ listing m cs)
listing_is {m = m} laws cs rows = (λ t. table_one m cs rows (listing m cs) t (listing_tabulates laws cs), λ e. rw e (listing_tabulates laws cs))
