use Rattle.recording.specs.Cells.{Bytes}
use Rattle.recording.proofs.Store.whole.Given as goal

abbrev pub invariant-loop-k : goal.invariant-loop-k
invariant-loop-k g l = Bytes (g.Self.Store.cells l.self) l.at l.k
