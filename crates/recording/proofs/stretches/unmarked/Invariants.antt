use Rattle.std.proofs.Common.{◌≡◌, ℕ, ◌+◌, ◌<◌, ◌≤◌, false, take}
use Rattle.recording.specs.Marks.{lost_at}
use Rattle.recording.proofs.stretches.unmarked.Given as goal

abbrev pub invariant-loop-row : goal.invariant-loop-row
invariant-loop-row l = (l.free ≤ l.count) × ((k : ℕ) → k < l.free → lost_at (take l.row-index l.rows) (l.at + k) ≡ false)
