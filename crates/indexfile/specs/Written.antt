-- A file that was written reads back.
use Rattle.std.specs.Prelude.{◌≡◌, ℕ, ◌^◌, ◌<◌, true, List, length, slice_index_or}
use Rattle.indexfile.specs.declared.row.Row.{Row}
use Rattle.indexfile.specs.Files.{counts_in, row_in, rows_in, sound_file}

-- a row whose members fit their places in the file
pub record Wide (x : Row) : Type 0 where
  pub place : x.place < 2 ^ 32
  pub length : x.length < 2 ^ 32
  pub tag : x.tag < 2 ^ 32
  pub type : x.source_type < 2 ^ 16
  pub id : x.source_id < 2 ^ 16
  pub time : x.time < 2 ^ 32

-- what stands past the last row
abbrev pub no_row : Row
no_row = record { place = 0; length = 0; tag = 0; source_type = 0; source_id = 0; time = 0 }

-- a sound file that says what was written
pub record ReadsBack (place skipped : ℕ) (rows : List Row) (bs : List ℕ) : Type 0 where
  pub sound : sound_file bs ≡ true
  pub counts : counts_in bs ≡ record { rows = length rows; place = place; skipped = skipped }
  pub all : rows_in bs ≡ rows
  pub each : (n : ℕ) → n < length rows → row_in bs n ≡ slice_index_or rows n no_row
