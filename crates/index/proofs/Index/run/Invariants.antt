use Rattle.index.proofs.Visiting.{Sofar}
use Rattle.index.proofs.Index.run.Given as goal

abbrev pub invariant-loop-visit : goal.invariant-loop-visit
invariant-loop-visit g l = Sofar g.S.Store g.K.RecordKind l.initial.visits l.initial.self l.initial.table l.initial.buffer l.visit-index l.visits l.self l.table l.buffer
