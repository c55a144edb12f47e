-- Behind a clear boundary the listing does not depend on what stands ahead of it.
use Rattle.std.proofs.Common.{◌≡◌, ℕ, suc, ◌+◌, ◌-◌, ◌≤◌, List, [], ◌∷◌, map, length, drop, refl, ap, inl, inr, arith, length-drop}
use Rattle.std.proofs.lemmas.Bool.{le-leb, lt-leb, le-ltb, cases_lt}
use Rattle.recording.specs.declared.Cell.{Cell}
use Rattle.indexfile.specs.declared.row.Row.{Row}
use Rattle.records.specs.Records.{Meaning, Laws}
use Rattle.listing.specs.Listing.{row_at, listing, Clear, ahead, behind, counted}
use Rattle.listing.proofs.SameTest.{same_test}
use Rattle.listing.proofs.Lists.{Lists, at_end, at_cell, at_record, rows_end, rows_cell, rows_record, lists_from}

-- the rows from a place on begin there or later
pub behind_all : {m : Meaning} {cs : List Cell} {p : ℕ} {rows : List Row} → Lists m cs p rows → (b : ℕ) → b ≤ p → behind b rows ≡ rows
behind_all (at_end h) b l = refl
behind_all (at_cell h e r) b l = behind_all r b (omega arith)
behind_all (at_record {p} {rows} x e r) b l = rw (le-leb b p l) (ap (λ z. row_at p x ∷ z) (behind_all r b (omega arith)))

pub ahead_none : {m : Meaning} {cs : List Cell} {p : ℕ} {rows : List Row} → Lists m cs p rows → (b : ℕ) → b ≤ p → ahead b rows ≡ []
ahead_none (at_end h) b l = refl
ahead_none (at_cell h e r) b l = ahead_none r b (omega arith)
ahead_none (at_record {p} {rows} x e r) b l = rw (le-ltb p b l) (ahead_none r b (omega arith))

-- from a clear boundary on the listing is the listing that begins there
behind_here : {m : Meaning} {cs : List Cell} {p : ℕ} {rows : List Row} → Lists m cs p rows → (b : ℕ) → b ≡ p → Lists m cs b (behind b rows)
behind_here r b e = rw (behind_all r b (omega arith), e) r

pub behind_clear : {m : Meaning} {cs : List Cell} {p : ℕ} {rows : List Row} → Lists m cs p rows → (b : ℕ) → Clear m cs b → p ≤ b → Lists m cs b (behind b rows)
behind_clear (at_end h) b clear l = at_end (omega arith)
behind_clear (at_cell {p} h e r) b clear l = elim (cases_lt p b) [ inl s ↦ behind_clear r b clear (omega arith) | inr s ↦ behind_here (at_cell h e r) b (omega arith) ]
behind_clear (at_record {p} x e r) b clear l = elim (cases_lt p b) [ inl s ↦ rw (lt-leb b p s) (behind_clear r b clear (clear.uncrossed p x e s)) | inr s ↦ behind_here (at_record x e r) b (omega arith) ]

module _ {M : ℕ} {m : Meaning} (laws : Laws M m) (cs ds : List Cell) (b c : ℕ) (same : drop b cs ≡ drop c ds) (in-cs : b ≤ length cs) (in-ds : c ≤ length ds) where
  pub same_length : length cs + c ≡ length ds + b
  same_length = omega (arith, length-drop b cs, length-drop c ds, ap length same)

  same_rows : (d : ℕ) {p q : ℕ} {rs ss : List Row} → Lists m cs p rs → Lists m ds q ss → p ≡ b + d → q ≡ c + d → map (counted b) rs ≡ map (counted c) ss
  same_rows d (at_end h) t u v = rw (rows_end laws ds t (omega (arith, same_length)))
  same_rows d (at_cell {p} h e r) t u v = same_rows (suc d) r (rows_cell laws ds t (omega (arith, same_length)) (cc (same_test laws cs ds b c d same))) (omega arith) (omega arith)
  same_rows d {q = q} (at_record {p} {rows} x e r) t u v =
      let (rest, s, w) = rows_record laws ds t x (cc (same_test laws cs ds b c d same)) in
      let k : p - b ≡ q - c = omega arith in
      rw (s, k) (ap (λ z. row_at (q - c) x ∷ z) (same_rows (d + x.length) r w (omega arith) (omega arith)))

-- two recordings that are the same from a clear boundary on have the same rows from there on
pub resynchronised : {M : ℕ} {m : Meaning} → Laws M m → (cs ds : List Cell) (b c : ℕ) → Clear m cs b → Clear m ds c → drop b cs ≡ drop c ds
    → map (counted b) (behind b (listing m cs)) ≡ map (counted c) (behind c (listing m ds))
resynchronised laws cs ds b c k l same =
    same_rows laws cs ds b c same k.within l.within 0 (behind_clear (lists_from laws cs 0) b k (omega arith)) (behind_clear (lists_from laws ds 0) c l (omega arith)) (omega arith) (omega arith)
