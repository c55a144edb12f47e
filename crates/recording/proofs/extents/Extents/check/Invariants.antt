use Rattle.std.proofs.Common.{◌≡◌, drop}
use Rattle.recording.specs.Pieces.{first_bad}
use Rattle.recording.proofs.extents.Extents.check.Given as goal

abbrev pub invariant-loop-i : goal.invariant-loop-i
invariant-loop-i l = first_bad l.i (drop l.i l.row-items) ≡ first_bad 0 l.row-items
