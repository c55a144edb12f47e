-- Worked examples: recordings with their rows, the cells skipped and what is said of some boundaries; and settings bodies with what is found of them.
use Rattle.std.specs.Prelude.{◌≡◌, ℕ, ◌-◌, ◌/◌, ◌%◌, List, [], ◌∷◌, ◌++◌, length, take, drop, replicate, Some, None, Ok, Err, Option, Result, slice_set}
use Rattle.std.specs.List.{AllByRecursion}
use Rattle.refusals.specs.declared.Notice.{Notice}
use Rattle.refusals.specs.Notices.{notice}
use Rattle.layouts.specs.declared.settings.Counter.TheVariants.{Without}
use Rattle.bodies.specs.declared.fault.TupleFault.{TupleFault}
use Rattle.bodies.specs.Faults.{tuple_fault}
use Rattle.bodies.specs.Judge.{tuple_of}
use Rattle.recording.specs.declared.Cell.{Cell}
use Rattle.recording.specs.declared.Cell.TheVariants.{Lost}
use Rattle.recording.specs.Cells.{bytes_only}
use Rattle.records.specs.Records.{Meaning}
use Rattle.records.specs.Grammars.{meaning}
use Rattle.records.specs.Tuples.{tuple}
use Rattle.records.specs.Sentences.{sentence}
use Rattle.indexfile.specs.declared.row.Row.{Row}
use Rattle.listing.specs.declared.answer.Call.TheVariants.{Scan}
use Rattle.listing.specs.Listing.{listing}
use Rattle.listing.specs.Progress.{Progress, at}
use Rattle.listing.specs.Clearing.{clearing}
use Rattle.listing.specs.Visits.{visited, unused}
use Rattle.listing.specs.Visits.{unmade}

-- a recording with its listing
pub record Listing : Type 0 where
  pub meaning : Meaning
  pub cells : List Cell
  pub rows : List Row
  pub skipped : ℕ
  pub boundaries : List (ℕ × Option ℕ)

-- a row that was not written yet
abbrev pub blank : Row
blank = record { place = 0; length = 0; tag = 0; source_type = 0; source_id = 0; time = 0 }

abbrev pub start : Progress
start = unused (blank ∷ blank ∷ [])

-- an index that has read an example to its end
abbrev pub finished : Listing → Progress
finished e = at (length e.cells) e.skipped (length e.rows) (e.rows ++ drop (length e.rows) start.table)

-- the listing has these rows; one scan from the start comes to the end with them; and each boundary is answered so
pub record Listed (e : Listing) : Type 0 where
  pub listed : listing e.meaning e.cells ≡ e.rows
  pub scanned : visited e.meaning e.cells (unmade (Scan 65536) ∷ []) start ≡ finished e
  pub answers : AllByRecursion (λ b. clearing e.meaning e.cells b.0 start ≡ Ok b.1) e.boundaries

-- what is found of a settings body: nothing, or a number and a place
abbrev pub found : Result (Unit {0}) TupleFault → Option Notice
found (Ok u) = None
found (Err f) = Some (tuple_fault f)

-- so many bytes, zero but for Version and HeadControllerVersion, which are the same, and HidType
abbrev pub settings : ℕ → ℕ → ℕ → List ℕ
settings v n hid = slice_set (slice_set (slice_set (slice_set (replicate n 0) 13 v) (n - 30) v) (n - 94) (hid % 256)) (n - 93) (hid / 256)

pub data Example : Type 0 where
  lists : Listing → Example
  judges : List ℕ → Option Notice → Example

abbrev pub Holds : Example → Type 0
Holds (lists e) = Listed e
Holds (judges bs n) = found (tuple_of 15 (Some Without) bs) ≡ n

abbrev pub empty_tuple : List ℕ
empty_tuple = 0 ∷ 128 ∷ 1 ∷ 0 ∷ 2 ∷ 0 ∷ 6 ∷ 0 ∷ 0 ∷ 0 ∷ 0 ∷ 0 ∷ 0 ∷ 0 ∷ 0 ∷ 0 ∷ []

-- a tuple whose body is an empty tuple
abbrev pub nested_tuple : List ℕ
nested_tuple = 0 ∷ 128 ∷ 1 ∷ 0 ∷ 2 ∷ 0 ∷ 6 ∷ 0 ∷ 0 ∷ 0 ∷ 0 ∷ 0 ∷ 16 ∷ 0 ∷ empty_tuple ++ 16 ∷ 0 ∷ []

abbrev pub tuple_row : ℕ → ℕ → Row
tuple_row p n = record { place = p; length = n; tag = 6; source_type = 1; source_id = 2; time = 0 }

-- `$GPHDT*4F` or `$GPHDT*4f`, by its last digit, and CR LF
abbrev pub heading : ℕ → List ℕ
heading digit = 36 ∷ 71 ∷ 80 ∷ 72 ∷ 68 ∷ 84 ∷ 42 ∷ 52 ∷ digit ∷ 13 ∷ 10 ∷ []

abbrev pub heading_row : Row
heading_row = record { place = 0; length = 11; tag = 4736084; source_type = 0; source_id = 0; time = 0 }

abbrev pub tuples : List Cell → List Row → ℕ → List (ℕ × Option ℕ) → Example
tuples cs rows n bs = lists (record { meaning = meaning tuple; cells = cs; rows = rows; skipped = n; boundaries = bs })

abbrev pub sentences : List Cell → List Row → ℕ → List (ℕ × Option ℕ) → Example
sentences cs rows n bs = lists (record { meaning = meaning sentence; cells = cs; rows = rows; skipped = n; boundaries = bs })

abbrev pub examples : List Example
examples =
    -- a whole tuple
    tuples (bytes_only empty_tuple) (tuple_row 0 16 ∷ []) 0 ((0, None) ∷ (8, Some 0) ∷ (16, None) ∷ [])
    -- a tuple that is cut before its last byte
    ∷ tuples (bytes_only (take 15 empty_tuple)) [] 15 []
    -- a footer that disagrees with the header: nothing is jumped over
    ∷ tuples (bytes_only (slice_set empty_tuple 14 1)) [] 16 []
    -- a byte that belongs to no tuple comes first
    ∷ tuples (bytes_only (255 ∷ empty_tuple)) (tuple_row 1 16 ∷ []) 1 []
    -- a tuple with a lost cell
    ∷ tuples (slice_set (bytes_only empty_tuple) 5 Lost) [] 16 []
    -- a tuple inside another's body is not listed, and its beginning is not clear
    ∷ tuples (bytes_only nested_tuple) (tuple_row 0 32 ∷ []) 0 ((14, Some 0) ∷ (20, Some 0) ∷ (32, None) ∷ [])
    -- the outer one's first cell is lost: the inner one is listed, and its beginning is clear
    ∷ tuples (slice_set (bytes_only nested_tuple) 0 Lost) (tuple_row 14 16 ∷ []) 16 ((14, None) ∷ (20, Some 14) ∷ [])
    -- a sentence without a text
    ∷ sentences (bytes_only (heading 70)) (heading_row ∷ []) 0 []
    -- a digit in lower case
    ∷ sentences (bytes_only (heading 102)) [] 11 []
    -- no cells
    ∷ tuples [] [] 0 ((0, None) ∷ [])
    -- settings of version 5 in the altimeter's length: an altimeter's head, and another
    ∷ judges (settings 5 205 0x1007) None
    ∷ judges (settings 5 205 0x0971) (Some (notice 8 111))
    -- settings of version 11: as long as they should be, and a byte shorter
    ∷ judges (settings 11 222 0) None
    ∷ judges (settings 11 221 0) (Some (notice 6 0))
    ∷ []
