-- What it says of the rows that they are checked.
use Rattle.std.specs.Prelude.{◌≡◌, ℕ, ◌<◌, ◌≤◌, List, length, Ok, Err, Result, slice_index_or}
use Rattle.std.specs.List.{flat_map}
use Rattle.recording.specs.declared.extents.Extent.{Extent}
use Rattle.recording.specs.declared.extents.BadExtent.{BadExtent}
use Rattle.recording.specs.declared.extents.BadExtent.TheVariants.{TooLong, TooMany}
use Rattle.recording.specs.Pieces.{run, pieces}

-- the length of a row
abbrev pub length_at : List Extent → ℕ → ℕ
length_at rows k = (slice_index_or rows k (record { place = 0; length = 0 })).length

-- rows that each add all their cells: at most sixty-four of them, and none too long
abbrev pub Sound : List Extent → ℕ → Type 0
Sound rows n = (n ≤ 64) × ((k : ℕ) → k < n → length_at rows k ≤ 33554431)

-- rows that pass are the recording, cell by cell; else the row that is named adds no cells, and each before it adds all of its own
abbrev pub Checked : List ℕ → List Extent → Result (Unit {0}) BadExtent → Type 0
Checked image rows (Ok u) = Sound rows (length rows) × (pieces image rows ≡ flat_map (λ e. run image e.place e.length) rows)
Checked image rows (Err (TooLong k)) = (k < length rows) × Sound rows k × (k < 64) × (33554431 < length_at rows k)
Checked image rows (Err (TooMany k)) = (k < length rows) × Sound rows k × (k ≡ 64)
