-- How a scan comes along the listing.
use Rattle.std.proofs.Common.{◌≡◌, ℕ, ◌+◌, ◌<◌, ◌≤◌, List, [], ◌∷◌, ◌++◌, length, take, drop, Some, None, sym, refl, ap, ◌∙◌, inl, inr, append-nil, arith, length-drop, take-append-drop, length-take, drop-drop, take-add}
use Rattle.std.specs.List.{AllByRecursion}
use Rattle.std.proofs.lemmas.Bool.{lt-ltb, le-ltb, cases_lt}
use Rattle.std.proofs.lemmas.List.Elements.{filter-append}
use Rattle.std.proofs.ByRecursion.{All-take, All-weaker, All-push}
use Rattle.recording.specs.declared.Cell.{Cell}
use Rattle.records.specs.declared.kind.Record.{Record}
use Rattle.indexfile.specs.declared.row.Row.{Row}
use Rattle.records.specs.Records.{Meaning, Laws}
use Rattle.indexfile.specs.Files.{lengths}
use Rattle.listing.specs.Listing.{row_at, listing, ahead, EndsBy, Along}
use Rattle.listing.proofs.Lists.{Lists, at_end, at_cell, at_record, rows_cell, rows_record, lists_from, from_lists}
use Rattle.listing.proofs.Boundaries.{ahead_none}
use Rattle.std.proofs.lemmas.Grind.{common_steps}

lengths_append : (r s : List Row) → lengths (r ++ s) ≡ lengths r + lengths s
lengths_append [] s = omega arith
lengths_append (x ∷ r) s = omega (arith, lengths_append r s)

-- what begins before a place begins before a later one
ahead_later : (a b : ℕ) → a ≤ b → (rows : List Row) → ahead b (ahead a rows) ≡ ahead a rows
ahead_later a b l [] = refl
ahead_later a b l (r ∷ rows) = elim (cases_lt r.place a) [ inl h ↦ rw (lt-ltb r.place a h) (rw (lt-ltb r.place b (omega arith)) (ap (λ z. r ∷ z) (ahead_later a b l rows))) | inr h ↦ rw (le-ltb r.place a h) (ahead_later a b l rows) ]

split_there : {m : Meaning} {cs : List Cell} {p : ℕ} (front : List Row) {rest : List Row} → Lists m cs p rest → ahead p front ≡ front → front ≡ ahead p (front ++ rest)
split_there {p = p} front {rest} r e = grind (arith, common_steps, filter-append, ahead_none, append-nil)

rows_long : {M : ℕ} {m : Meaning} → Laws M m → {cs : List Cell} {p : ℕ} {rows : List Row} → Lists m cs p rows → AllByRecursion (λ r. 1 ≤ r.length) rows
rows_long laws (at_end h) = tt
rows_long laws (at_cell h e r) = rows_long laws r
rows_long laws {cs} (at_record {p} x e r) = ((laws.inside cs p x e).0, rows_long laws r)

count_lengths : (rows : List Row) → AllByRecursion (λ r. 1 ≤ r.length) rows → length rows ≤ lengths rows
count_lengths [] h = omega arith
count_lengths (r ∷ rows) h = omega (arith, h.0, count_lengths rows h.1)

module _ {M : ℕ} {m : Meaning} (laws : Laws M m) (cs : List Cell) where
  pub along_start : Along m cs 0 0 0
  along_start = record { within = omega arith; found = omega arith; passed = sym (ahead_none (lists_from laws cs 0) 0 (omega arith)); closed = tt; sum = refl; rest = refl }

  module _ {p s r : ℕ} (a : Along m cs p s r) where
    ahead_now : Lists m cs p (drop r (listing m cs))
    ahead_now = rw a.rest (lists_from laws cs p)

    still : (q : ℕ) → p ≤ q → ahead q (take r (listing m cs)) ≡ take r (listing m cs)
    still q l = rw a.passed (ahead_later p q l (listing m cs))

    closed_still : (q : ℕ) → p ≤ q → AllByRecursion (EndsBy q) (take r (listing m cs))
    closed_still q l = All-weaker (EndsBy p) (EndsBy q) (λ z h. omega arith) (take r (listing m cs)) a.closed

    -- a skipped cell and a row each take a cell or more
    pub along_few : s + r ≤ p
    along_few =
        let n : length (take r (listing m cs)) ≤ lengths (take r (listing m cs)) = count_lengths (take r (listing m cs)) (All-take (λ z. 1 ≤ z.length) r (listing m cs) (rows_long laws (lists_from laws cs 0))) in
        omega (arith, n, length-take r (listing m cs), a.found, a.sum)

    pub along_cell : p < length cs → m cs p ≡ None → Along m cs (p + 1) (s + 1) r
    along_cell l e =
        let n = rows_cell laws cs ahead_now l e in
        record {
          within = omega arith;
          found = a.found;
          passed = split_there (take r (listing m cs)) n (still (p + 1) (omega arith)) ∙ ap (ahead (p + 1)) (take-append-drop r (listing m cs));
          closed = closed_still (p + 1) (omega arith);
          sum = omega (arith, a.sum);
          rest = from_lists laws cs n;
        }

    module _ (x : Record) (e : m cs p ≡ Some x) where
      after_row : (t : List Row) → drop r (listing m cs) ≡ row_at p x ∷ t → t ≡ drop (r + 1) (listing m cs)
      after_row t d = sym (ap (drop 1) d) ∙ drop-drop 1 r (listing m cs)

      -- the record at the place is the next row
      pub next_row : drop r (listing m cs) ≡ row_at p x ∷ drop (r + 1) (listing m cs)
      next_row = let t = rows_record laws cs ahead_now x e in t.1 ∙ ap (λ z. row_at p x ∷ z) (after_row t.0 t.1)

      next_rows : Lists m cs (p + x.length) (drop (r + 1) (listing m cs))
      next_rows = let t = rows_record laws cs ahead_now x e in rw (after_row t.0 t.1) at t.2

      pub one_more : take (r + 1) (listing m cs) ≡ take r (listing m cs) ++ row_at p x ∷ []
      one_more = grind (arith, common_steps, take-add, next_row)

      still_more : ahead (p + x.length) (take (r + 1) (listing m cs)) ≡ take (r + 1) (listing m cs)
      still_more = grind (arith, common_steps, one_more, filter-append, still, lt-ltb)

      pub along_record : Along m cs (p + x.length) s (r + 1)
      along_record = record {
        within = omega (arith, laws.inside cs p x e);
        found = omega (arith, length-drop r (listing m cs), ap length next_row);
        passed = split_there (take (r + 1) (listing m cs)) next_rows still_more ∙ ap (ahead (p + x.length)) (take-append-drop (r + 1) (listing m cs));
        closed = rw one_more (All-push (EndsBy (p + x.length)) (take r (listing m cs)) (row_at p x) (closed_still (p + x.length) (omega arith)) (omega arith));
        sum = omega (arith, ap lengths one_more, lengths_append (take r (listing m cs)) (row_at p x ∷ []), a.sum);
        rest = from_lists laws cs next_rows;
      }
