-- A scan, turn by turn.
use Rattle.std.specs.Prelude.{ℕ, zero, suc, ◌+◌, ◌-◌, min, Bool, true, false, cond, List, length, Some, None, Ok, Err, Option, Result, nat_le, nat_lt, slice_set}
use Rattle.recording.specs.declared.Cell.{Cell}
use Rattle.records.specs.declared.kind.Record.{Record}
use Rattle.records.specs.Records.{Meaning}
use Rattle.listing.specs.declared.answer.Stop.{Stop}
use Rattle.listing.specs.declared.answer.Stop.TheVariants.{Ended, Spent, Full}
use Rattle.listing.specs.declared.answer.Scanned.{Scanned}
use Rattle.listing.specs.declared.answer.ScanRefusal.{ScanRefusal}
use Rattle.listing.specs.declared.answer.ScanRefusal.TheVariants.{ShortTable, WrongBudget}
use Rattle.listing.specs.Listing.{row_at}
use Rattle.listing.specs.Progress.{Progress, at}

-- a row is free below the table's end, and below 65,536
abbrev pub free : Progress → Bool
free s = nat_lt s.rows (min (length s.table) 65536)

-- one test: a cell is skipped, or a record fills the next row, or no row is free and all stays
abbrev pub turned : Option Record → Progress → Bool × Progress
turned None s = (true, at (s.place + 1) (s.skipped + 1) s.rows s.table)
turned (Some x) s = cond (free s) (true, at (s.place + x.length) s.skipped (s.rows + 1) (slice_set s.table s.rows (row_at s.place x))) (false, s)

-- why a run of turns stopped, the tests it made, and what it left behind
pub record Outcome : Type 0 where
  pub stop : Stop
  pub tests : ℕ
  pub left : Progress

abbrev pub outcome : Stop → ℕ → Progress → Outcome
outcome e n s = record { stop = e; tests = n; left = s }

-- at most so many more turns, after the tests made: at the end of the recording it is ended, and only then spent
unfoldable pub scanned : Meaning → List Cell → ℕ → ℕ → Progress → Outcome
scanned m cs zero made s = cond (nat_le (length cs) s.place) (outcome Ended made s) (outcome Spent made s)
scanned m cs (suc n) made s =
    cond (nat_le (length cs) s.place) (outcome Ended made s)
    (cond (turned (m cs s.place) s).0 (scanned m cs n (made + 1) (turned (m cs s.place) s).1) (outcome Full (made + 1) (turned (m cs s.place) s).1))

-- the answer to a run of turns that began at s
abbrev pub answer_to : Progress → Outcome → Result Scanned ScanRefusal × Progress
answer_to s o = (Ok (record { stop = o.stop; tests = o.tests; added = o.left.rows - s.rows }), o.left)

-- a call: refused with everything as it was, or answered
abbrev pub scanning : Meaning → List Cell → ℕ → Progress → Result Scanned ScanRefusal × Progress
scanning m cs budget s =
    cond (nat_lt (length s.table) s.rows) (Err ShortTable, s)
    (cond (nat_lt budget 1) (Err WrongBudget, s) (cond (nat_lt 65536 budget) (Err WrongBudget, s) (answer_to s (scanned m cs budget 0 s))))
