use Rattle.std.proofs.Common.{◌-◌}
use Rattle.index.proofs.Scans.{Sofar}
use Rattle.index.proofs.Index.read_on.Given as goal

abbrev pub invariant-loop-self : goal.invariant-loop-self
invariant-loop-self g l = Sofar g.S.Store g.K.RecordKind l.budget l.initial.self l.initial.table l.tests l.self l.table

abbrev pub decreases-loop-self : goal.decreases-loop-self
decreases-loop-self g l = l.budget - l.tests
