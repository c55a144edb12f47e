use Rattle.std.proofs.Common.{arith}
use Rattle.index.proofs.Visiting.{start_of, one_more, all_made, serves}
use Rattle.index.proofs.Index.run.Goals as goal

pub loop-visit-init : goal.loop-visit-init
loop-visit-init g c = start_of

pub loop-visit-preserved : goal.loop-visit-preserved
loop-visit-preserved g c = one_more c.loop-visit.invariant _ (omega arith) c.visit.ensures

pub returns : goal.returns
returns g c =
    let r = all_made c.loop-visit.invariant (omega arith) in
    record { ran = r; serves = serves g.S.Store g.K.RecordKind g.K.RecordKind.laws r }
