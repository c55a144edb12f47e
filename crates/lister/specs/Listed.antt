-- What a listing holds.
use Rattle.std.specs.Prelude.{◌≡◌, ◌+◌, ◌<◌, ◌≤◌, List, length, Ok, Err, vec_items, Result}
use Rattle.recording.specs.declared.Cell.{Cell}
use Rattle.records.specs.Records.{Meaning}
use Rattle.listing.specs.Listing.{listing}
use Rattle.indexfile.specs.Files.{lengths}
use Rattle.listing.specs.Progress.{Progress, at, held}
use Rattle.lister.specs.declared.Listed.{Listed}
use Rattle.lister.specs.declared.ListError.{ListError}
use Rattle.lister.specs.declared.ListError.TheVariants.{TooLong, Memory}

-- an index at the end: its rows are the whole listing
pub record Ends (m : Meaning) (cs : List Cell) (s : Progress) : Type 0 where
  pub rows : held s ≡ listing m cs
  pub place : s.place ≡ length cs
  pub sum : s.place ≡ s.skipped + lengths (listing m cs)

abbrev pub progress_of : Listed → Progress
progress_of l = at l.counts.place l.counts.skipped l.counts.rows (vec_items l.rows)

-- at most 32,768 cells are listed, and those whole: the rows are those of the listing
abbrev pub Lists : Meaning → List Cell → Result Listed ListError → Type 0
Lists m cs (Ok l) = (length cs ≤ 32768) × Ends m cs (progress_of l) × (vec_items l.rows ≡ listing m cs)
Lists m cs (Err TooLong) = 32768 < length cs
Lists m cs (Err Memory) = length cs ≤ 32768
