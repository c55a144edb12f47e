use Rattle.std.proofs.Common.{arith}
use Rattle.recording.proofs.Losses.{push_loses}
use Rattle.recording.proofs.stretches.Stretches.mark.Goals as goal

pub returns-clause-loses : goal.returns-clause-loses
returns-clause-loses g c =
    push_loses c.args.self.now.rows.items c.try_push.new.self.items _ (g.S.Store.cells c.args.self.now.below) c.try_push.result c.map_err.result c.map_err.ensures.variant c.try_push.ensures.ok c.try_push.ensures.err (omega arith)
