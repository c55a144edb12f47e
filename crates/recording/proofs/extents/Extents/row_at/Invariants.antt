use Rattle.std.proofs.Common.{◌≡◌, ℕ, ◌+◌, drop}
use Rattle.std.specs.List.{flat_map}
use Rattle.recording.specs.Cells.{cell_at}
use Rattle.recording.specs.Pieces.{piece}
use Rattle.recording.proofs.extents.Extents.row_at.Given as goal

abbrev pub invariant-loop-row : goal.invariant-loop-row
invariant-loop-row l = (k : ℕ) → cell_at (flat_map (piece l.self.image.now) (drop l.row-index l.row-items)) (l.left + k) ≡ cell_at (flat_map (piece l.self.image.now) l.row-items) (l.at + k)
