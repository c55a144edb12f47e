-- A scan goes along the listing, and so does every index that is visited.
use Rattle.std.proofs.Common.{◌≡◌, ℕ, zero, suc, ◌+◌, ◌-◌, ◌<◌, ◌≤◌, min, List, [], ◌∷◌, ◌++◌, length, take, drop, set, Some, None, Err, Option, sym, refl, ap, ◌∙◌, inl, inr, arith, length-set, length-take, drop-drop, drop-set-lt}
use Rattle.std.proofs.lemmas.Bool.{lt-leb, cases_lt}
use Rattle.std.proofs.lemmas.List.{take_more_set, drop_at}
use Rattle.recording.specs.declared.Cell.{Cell}
use Rattle.records.specs.declared.kind.Record.{Record}
use Rattle.records.specs.Records.{Meaning, Laws}
use Rattle.indexfile.specs.declared.row.Row.{Row}
use Rattle.listing.specs.declared.answer.Stop.{Stop}
use Rattle.listing.specs.declared.answer.Stop.TheVariants.{Ended, Spent, Full}
use Rattle.listing.specs.declared.answer.ScanRefusal.TheVariants.{WrongBudget}
use Rattle.listing.specs.declared.answer.ClearRefusal.TheVariants.{PastEnd}
use Rattle.listing.specs.declared.answer.Call.{Call}
use Rattle.listing.specs.declared.answer.Call.TheVariants as call
use Rattle.listing.specs.declared.answer.Visit.{Visit}
use Rattle.listing.specs.Listing.{row_at, listing, onward, moved}
use Rattle.listing.specs.Progress.{Progress, at}
use Rattle.listing.specs.Scanning.{Outcome, outcome, scanned, scanning, answer_to}
use Rattle.listing.specs.Visits.{after, visited, unused}
use Rattle.listing.specs.Promise.{Why, extra, Goes, Used}
use Rattle.listing.proofs.Scans.{ended, spent}
use Rattle.listing.proofs.Clearness.{tells, past}
use Rattle.listing.proofs.HeldRows.{Faithful, holds, lacks, saves}
use Rattle.listing.proofs.Along.{along_start, along_few, along_cell, along_record, one_more}
use Rattle.std.proofs.lemmas.Grind.{common_steps}

abbrev skip : Progress → Progress
skip s = at (s.place + 1) (s.skipped + 1) s.rows s.table

abbrev pass : Record → Progress → Progress
pass x s = at (s.place + x.length) s.skipped (s.rows + 1) (set s.table s.rows (row_at s.place x))

-- one turn
module _ (m : Meaning) (cs : List Cell) (n k : ℕ) (s : Progress) (h : s.place < length cs) where
  step_skip : m cs s.place ≡ None → scanned m cs (suc n) k s ≡ scanned m cs n (k + 1) (skip s)
  unfolding scanned
  step_skip e = rw (lt-leb (length cs) s.place h, e)

  step_row : (x : Record) → m cs s.place ≡ Some x → s.rows < min (length s.table) 65536 → scanned m cs (suc n) k s ≡ scanned m cs n (k + 1) (pass x s)
  unfolding scanned
  step_row x e f = grind (arith, common_steps)

  step_full : (x : Record) → m cs s.place ≡ Some x → min (length s.table) 65536 ≤ s.rows → scanned m cs (suc n) k s ≡ outcome Full (k + 1) s
  unfolding scanned
  step_full x e f = grind (arith, common_steps)

-- what n turns do, after k tests
record Ran (m : Meaning) (cs : List Cell) (n k : ℕ) (s : Progress) (o : Outcome) : Type 0 where
  pub faithful : Faithful m cs o.left
  pub grows : s.rows ≤ o.left.rows
  pub table : o.left.table ≡ take o.left.rows (listing m cs) ++ drop o.left.rows s.table
  pub size : length o.left.table ≡ length s.table
  pub tests : s.skipped + s.rows + o.tests ≡ o.left.skipped + o.left.rows + extra o.stop + k
  pub made : k + extra o.stop ≤ o.tests
  pub moves : o.left.place ≡ moved m cs (o.tests - (k + extra o.stop)) s.place
  pub spare : o.tests ≤ k + n
  pub why : Why m cs (k + n) o.tests o.left o.stop

module _ {M : ℕ} {m : Meaning} (laws : Laws M m) (cs : List Cell) where
  stops : (n k j : ℕ) (s : Progress) (t : Stop) → Faithful m cs s → j ≡ k + extra t → j ≤ k + n → Why m cs (k + n) j s t → Ran m cs n k s (outcome t j s)
  stops n k j s t f e l w = grind (arith, common_steps)

  skips : (s : Progress) → Faithful m cs s → s.place < length cs → m cs s.place ≡ None → Faithful m cs (skip s)
  skips s f l e = record { along = along_cell laws cs f.along l e; same = f.same; room = f.room }

  adds : (s : Progress) (x : Record) → Faithful m cs s → m cs s.place ≡ Some x → s.rows < min (length s.table) 65536 → Faithful m cs (pass x s)
  adds s x f e l = record {
    along = along_record laws cs f.along x e;
    same = take_more_set s.table s.rows (row_at s.place x) (omega arith) ∙ ap (λ z. z ++ row_at s.place x ∷ []) f.same ∙ sym (one_more laws cs f.along x e);
    room = simp length-set (omega arith);
  }

  why_later : (n k : ℕ) (o : Outcome) (t : Stop) → Why m cs (k + 1 + n) o.tests o.left t → Why m cs (k + suc n) o.tests o.left t
  why_later n k o Ended w = w
  why_later n k o Spent w = (w.0, omega arith)
  why_later n k o Full w = w

  -- the first test moves the place, and the others move it on
  moves_on : (k : ℕ) (s : Progress) (q : ℕ) (o : Outcome) → onward s.place (m cs s.place) ≡ q → k + 1 + extra o.stop ≤ o.tests
      → o.left.place ≡ moved m cs (o.tests - (k + 1 + extra o.stop)) q → o.left.place ≡ moved m cs (o.tests - (k + extra o.stop)) s.place
  moves_on k s q o e l h = grind (arith, common_steps)

  after_skip : (n k : ℕ) (s : Progress) (o : Outcome) → m cs s.place ≡ None → Ran m cs n (k + 1) (skip s) o → Ran m cs (suc n) k s o
  after_skip n k s o e r = grind (arith, common_steps)

  after_row : (n k : ℕ) (s : Progress) (x : Record) (o : Outcome) → m cs s.place ≡ Some x → Ran m cs n (k + 1) (pass x s) o → Ran m cs (suc n) k s o
  after_row n k s x o e r = record {
    faithful = r.faithful;
    grows = omega (arith, r.grows);
    table = r.table ∙ ap (λ z. take o.left.rows (listing m cs) ++ z) (drop-set-lt o.left.rows s.table s.rows (row_at s.place x) (omega (arith, r.grows)));
    size = r.size ∙ length-set s.table s.rows (row_at s.place x);
    tests = omega (arith, r.tests);
    made = omega (arith, r.made);
    moves = moves_on k s (s.place + x.length) o (ap (onward s.place) e) r.made r.moves;
    spare = omega (arith, r.spare);
    why = why_later n k o o.stop r.why;
  }

  ran : (n k : ℕ) (s : Progress) → Faithful m cs s → Ran m cs n k s (scanned m cs n k s)
  ran zero k s f = elim (cases_lt s.place (length cs)) [
    | inl l ↦ rw (spent m cs 0 k s refl l) (stops 0 k k s Spent f (omega arith) (omega arith) (l, omega arith))
    | inr l ↦ rw (ended m cs 0 k s l) (stops 0 k k s Ended f (omega arith) (omega arith) (omega (arith, f.along.within)))
  ]
  ran (suc n) k s f = elim (cases_lt s.place (length cs)) [
    | inl l ↦ go l (ran n (k + 1)) (m cs s.place) refl
    | inr l ↦ rw (ended m cs (suc n) k s l) (stops (suc n) k k s Ended f (omega arith) (omega arith) (omega (arith, f.along.within)))
  ]
    where
      go : s.place < length cs → ((t : Progress) → Faithful m cs t → Ran m cs n (k + 1) t (scanned m cs n (k + 1) t)) → (o : Option Record) → m cs s.place ≡ o → Ran m cs (suc n) k s (scanned m cs (suc n) k s)
      go l next None e = rw (step_skip m cs n k s l e) (after_skip n k s (scanned m cs n (k + 1) (skip s)) e (next (skip s) (skips s f l e)))
      go l next (Some x) e = elim (cases_lt s.rows (min (length s.table) 65536)) [
        | inl r ↦ rw (step_row m cs n k s l x e r) (after_row n k s x (scanned m cs n (k + 1) (pass x s)) e (next (pass x s) (adds s x f e r)))
        | inr r ↦ rw (step_full m cs n k s l x e r) (stops (suc n) k (k + 1) s Full f (omega arith) (omega arith) (omega (arith, f.room), (x, e)))
      ]

  goes : (budget : ℕ) (s : Progress) (o : Outcome) → Ran m cs budget 0 s o → Goes m cs budget s (record { stop = o.stop; tests = o.tests; added = o.left.rows - s.rows }) o.left
  goes budget s o r = grind (arith, common_steps)

  -- the three ways of a call
  welcome : (budget : ℕ) (s : Progress) → Faithful m cs s → 1 ≤ budget → budget ≤ 65536 → scanning m cs budget s ≡ answer_to s (scanned m cs budget 0 s)
  welcome budget s f l h = grind (arith, common_steps)

  too_few : (budget : ℕ) (s : Progress) → Faithful m cs s → budget ≡ 0 → scanning m cs budget s ≡ (Err WrongBudget, s)
  too_few budget s f e = grind (arith, common_steps)

  too_many : (budget : ℕ) (s : Progress) → Faithful m cs s → 65536 < budget → scanning m cs budget s ≡ (Err WrongBudget, s)
  too_many budget s f h = grind (arith, common_steps)

  -- what all visits keep: the rows held, and the rest of the table as it was
  record Kept (table : List Row) (s : Progress) : Type 0 where
    pub faithful : Faithful m cs s
    pub others : drop s.rows s.table ≡ drop s.rows table
    pub size : length s.table ≡ length table

  scan_kept : (table : List Row) (budget : ℕ) (s : Progress) → Kept table s → Kept table (scanning m cs budget s).1
  scan_kept table budget s k = elim (cases_lt 65536 budget) [
    | inl h ↦ rw (too_many budget s k.faithful h) k
    | inr h ↦ elim (cases_lt budget 1) [
      | inl l ↦ rw (too_few budget s k.faithful (omega arith)) k
      | inr l ↦ rw (welcome budget s k.faithful l h) (goes_on (scanned m cs budget 0 s) (ran budget 0 s k.faithful))
    ]
  ]
    where
      goes_on : (o : Outcome) → Ran m cs budget 0 s o → Kept table o.left
      goes_on o r =
          let n = o.left.rows in
          let t = take n (listing m cs) in
          let found : length t ≡ n = length-take n (listing m cs) ∙ omega (arith, r.faithful.along.found) in
          let more : s.rows + (n - s.rows) ≡ n = omega (arith, r.grows) in
          let same : drop n s.table ≡ drop n table = ap (λ z. drop z s.table) (sym more) ∙ sym (drop-drop (n - s.rows) s.rows s.table) ∙ ap (drop (n - s.rows)) k.others ∙ drop-drop (n - s.rows) s.rows table ∙ ap (λ z. drop z table) more in
          record {
            faithful = r.faithful;
            others = ap (drop n) r.table ∙ drop_at t (drop n s.table) n found ∙ same;
            size = r.size ∙ k.size;
          }

  call_kept : (table : List Row) (c : Call) (s : Progress) → Kept table s → Kept table (after m cs c s)
  call_kept table (call.Scan budget) s k = scan_kept table budget s k
  call_kept table (call.Clear boundary) s k = k
  call_kept table (call.Fetch row) s k = k
  call_kept table (call.Settle row) s k = k
  call_kept table (call.Inspect row) s k = k
  call_kept table call.Save s k = k

  visits_kept : (table : List Row) (vs : List Visit) (s : Progress) → Kept table s → Kept table (visited m cs vs s)
  visits_kept table [] s k = k
  visits_kept table (v ∷ vs) s k = visits_kept table vs (after m cs v.call s) (call_kept table v.call s k)

  kept_after : (table : List Row) (vs : List Visit) → Kept table (visited m cs vs (unused table))
  kept_after table vs = visits_kept table vs (unused table) (record { faithful = record { along = along_start laws cs; same = refl; room = omega arith }; others = refl; size = refl })

  used_well : (table : List Row) (s : Progress) → Kept table s → Used m cs table s
  used_well table s k =
      let f = k.faithful in
      record {
        rows = f.same ∙ f.along.passed;
        closed = rw f.same f.along.closed;
        others = k.others;
        size = k.size;
        within = f.along.within;
        sum = rw f.same (sym f.along.sum);
        few = along_few laws cs f.along;
        room = omega (arith, f.room);
        scans = λ budget l h. rw (welcome budget s f l h) (record { stop = (scanned m cs budget 0 s).stop; tests = (scanned m cs budget 0 s).tests; added = (scanned m cs budget 0 s).left.rows - s.rows }, refl, goes budget s (scanned m cs budget 0 s) (ran budget 0 s f));
        no_scan = λ budget h. (WrongBudget, elim h [ inl e ↦ too_few budget s f e | inr l ↦ too_many budget s f l ], refl);
        clears = λ b. tells m cs b s laws;
        no_clear = λ b h. (PastEnd, past m cs b s (omega (arith, f.room)) h, refl);
        holds = holds laws cs s f;
        lacks = lacks laws cs s f;
        saves = saves laws cs s f;
      }

  pub faithful_after : (table : List Row) (vs : List Visit) → Faithful m cs (visited m cs vs (unused table))
  faithful_after table vs = (kept_after table vs).faithful

  pub used : (table : List Row) (vs : List Visit) → Used m cs table (visited m cs vs (unused table))
  used table vs = grind (arith, common_steps, used_well, kept_after)
