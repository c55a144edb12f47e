-- Visits to an index, one after the other, all with one table.
use Rattle.std.specs.Prelude.{ℕ, List, [], ◌∷◌, Some, None}
use Rattle.recording.specs.declared.Cell.{Cell}
use Rattle.records.specs.Records.{Meaning}
use Rattle.indexfile.specs.declared.row.Row.{Row}
use Rattle.listing.specs.declared.answer.Call.{Call}
use Rattle.listing.specs.declared.answer.Call.TheVariants as call
use Rattle.listing.specs.declared.answer.Answer.{Answer}
use Rattle.listing.specs.declared.answer.Answer.TheVariants as answer
use Rattle.listing.specs.declared.answer.Visit.{Visit}
use Rattle.listing.specs.Progress.{Progress, at}
use Rattle.listing.specs.Scanning.{scanning}
use Rattle.listing.specs.Clearing.{clearing}
use Rattle.listing.specs.Fetching.{fetching}
use Rattle.listing.specs.Settling.{settling, inspecting}
use Rattle.listing.specs.Saving.{saving}

-- a call that is still to be made
abbrev pub unmade : Call → Visit
unmade c = record { call = c; answer = None }

-- a new index, with the table that all its calls will have
abbrev pub unused : List Row → Progress
unused table = at 0 0 0 table

-- index and table after a call: only a scan changes them
abbrev pub after : Meaning → List Cell → Call → Progress → Progress
after m cs (call.Scan budget) s = (scanning m cs budget s).1
after m cs (call.Clear boundary) s = s
after m cs (call.Fetch row) s = s
after m cs (call.Settle row) s = s
after m cs (call.Inspect row) s = s
after m cs call.Save s = s

-- what a call answers, and the buffer that it leaves
abbrev pub called : Meaning → List Cell → Call → List ℕ → Progress → Answer × List ℕ
called m cs (call.Scan budget) buffer s = (answer.Scan (scanning m cs budget s).0, buffer)
called m cs (call.Clear boundary) buffer s = (answer.Clear (clearing m cs boundary s), buffer)
called m cs (call.Fetch row) buffer s = (answer.Fetch (fetching m cs row buffer s).0, (fetching m cs row buffer s).1)
called m cs (call.Settle row) buffer s = (answer.Settle (settling m cs row s), buffer)
called m cs (call.Inspect row) buffer s = (answer.Inspect (inspecting m cs row buffer s).0, (inspecting m cs row buffer s).1)
called m cs call.Save buffer s = (answer.Save (saving buffer s).0, (saving buffer s).1)

-- index and table after all visits
abbrev pub visited : Meaning → List Cell → List Visit → Progress → Progress
visited m cs [] s = s
visited m cs (v ∷ vs) s = visited m cs vs (after m cs v.call s)

-- the visits, each with its answer, and the buffer after all of them
abbrev pub answered : Meaning → List Cell → List Visit → List ℕ → Progress → List Visit
answered m cs [] buffer s = []
answered m cs (v ∷ vs) buffer s = record { call = v.call; answer = Some (called m cs v.call buffer s).0 } ∷ answered m cs vs (called m cs v.call buffer s).1 (after m cs v.call s)

abbrev pub buffered : Meaning → List Cell → List Visit → List ℕ → Progress → List ℕ
buffered m cs [] buffer s = buffer
buffered m cs (v ∷ vs) buffer s = buffered m cs vs (called m cs v.call buffer s).1 (after m cs v.call s)
