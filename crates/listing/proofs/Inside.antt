-- What the laws of a kind give of a row that stands.
use Rattle.std.proofs.Common.{◌≡◌, ℕ, ◌+◌, ◌≤◌, true, List, length, arith}
use Rattle.indexfile.specs.declared.row.Row.{Row}
use Rattle.listing.specs.Fetching.{standing}
use Rattle.recording.specs.declared.Cell.{Cell}
use Rattle.records.specs.Records.{Meaning, Laws}
use Rattle.std.proofs.lemmas.Grind.{common_steps}

-- a row that stands lies inside the recording
pub row_inside : {M : ℕ} {m : Meaning} → Laws M m → (cs : List Cell) (y : Row) → standing (m cs y.place) y ≡ true → y.place + y.length ≤ length cs
row_inside {M} {m} laws cs y e = grind (arith, common_steps)
