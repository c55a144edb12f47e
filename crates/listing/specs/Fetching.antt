-- The bytes of a record that a row names.
use Rattle.std.specs.Prelude.{ℕ, Bool, false, cond, ◌&&◌, List, ◌++◌, map, length, drop, Some, None, Ok, Err, Option, Result, ◌==◌, nat_le, nat_lt, slice_index_or}
use Rattle.recording.specs.declared.Cell.{Cell}
use Rattle.recording.specs.declared.Cell.TheVariants.{Byte, Lost}
use Rattle.recording.specs.declared.PastEnd.{PastEnd}
use Rattle.records.specs.declared.kind.Record.{Record}
use Rattle.records.specs.Records.{Meaning, run}
use Rattle.indexfile.specs.declared.row.Row.{Row}
use Rattle.indexfile.specs.Written.{no_row}
use Rattle.listing.specs.declared.answer.FetchRefusal.{FetchRefusal}
use Rattle.listing.specs.declared.answer.FetchRefusal.TheVariants.{ShortTable, RowNotHeld, RowNotStanding, ShortBuffer}
use Rattle.listing.specs.Progress.{Progress}
use Rattle.listing.specs.Listing.{row_at}

-- the byte that a cell holds; a record has no other cells
abbrev pub byte_of : Cell → ℕ
byte_of (Byte b) = b
byte_of Lost = 0

abbrev pub byte_in : Result Cell PastEnd → ℕ
byte_in (Ok c) = byte_of c
byte_in (Err e) = 0

-- the bytes of n cells at a place
abbrev pub bytes_at : List Cell → ℕ → ℕ → List ℕ
bytes_at cs p n = map byte_of (run cs p n)

-- all six members are the same
abbrev pub same_row : Row → Row → Bool
same_row x y = x.place == y.place && (x.length == y.length && (x.tag == y.tag && (x.source_type == y.source_type && (x.source_id == y.source_id && x.time == y.time))))

-- a row is that of the record that stands at its place
abbrev pub standing : Option Record → Row → Bool
standing None y = false
standing (Some x) y = same_row (row_at y.place x) y

-- the row of a number
abbrev pub row_of : Progress → ℕ → Row
row_of s i = slice_index_or s.table i no_row

-- a row's bytes in the front of a buffer that has room for them: the answer, and the buffer afterwards
abbrev pub filled : List Cell → Row → List ℕ → Result ℕ FetchRefusal × List ℕ
filled cs y buffer = cond (nat_lt (length buffer) y.length) (Err ShortBuffer, buffer) (Ok y.length, bytes_at cs y.place y.length ++ drop y.length buffer)

-- a call: refused with the buffer as it was, or answered
abbrev pub fetching : Meaning → List Cell → ℕ → List ℕ → Progress → Result ℕ FetchRefusal × List ℕ
fetching m cs i buffer s =
    cond (nat_lt (length s.table) s.rows) (Err ShortTable, buffer)
    (cond (nat_le s.rows i) (Err RowNotHeld, buffer)
    (cond (standing (m cs (row_of s i).place) (row_of s i)) (filled cs (row_of s i) buffer) (Err RowNotStanding, buffer)))
