-- What the refusals of a store tell.
use Rattle.refusals.specs.declared.Notice.{Notice}
use Rattle.refusals.specs.Notices.{notice, nowhere}
use Rattle.recording.specs.declared.PastEnd.{PastEnd}
use Rattle.recording.specs.declared.extents.BadExtent.{BadExtent}
use Rattle.recording.specs.declared.extents.BadExtent.TheVariants.{TooLong, TooMany}
use Rattle.recording.specs.declared.stretches.MarkRefusal.{MarkRefusal}
use Rattle.recording.specs.declared.stretches.MarkRefusal.TheVariants as mark

-- 2: there is no cell at the place
abbrev pub past_end : PastEnd → Notice
past_end e = nowhere 2

-- 16: a row that adds no cells, at its number
abbrev pub bad_extent : BadExtent → Notice
bad_extent (TooLong row) = notice 16 row
bad_extent (TooMany row) = notice 16 row

-- 14: the stretch is empty or passes the end; 23: no more can be marked
abbrev pub mark_refusal : MarkRefusal → Notice
mark_refusal mark.Empty = nowhere 14
mark_refusal mark.PastEnd = nowhere 14
mark_refusal mark.Full = nowhere 23
