use Rattle.std.proofs.Common.{◌≡◌, drop}
use Rattle.std.specs.List.{flat_map}
use Rattle.recording.specs.Cells.{whole_from}
use Rattle.recording.specs.Pieces.{piece}
use Rattle.recording.proofs.extents.ExtentsStore.whole.Given as goal

abbrev pub invariant-loop-row : goal.invariant-loop-row
invariant-loop-row l = whole_from (flat_map (piece l.self.image.now) (drop l.row-index l.row-items)) l.skip l.left ≡ whole_from (flat_map (piece l.self.image.now) l.row-items) l.at l.count
