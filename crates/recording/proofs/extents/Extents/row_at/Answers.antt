use Rattle.std.proofs.Common.{arith}
use Rattle.recording.proofs.Rows.{located_here, located_more, located_none, no_extent}
use Rattle.recording.proofs.extents.Extents.row_at.Goals as goal

pub returns-then-left-n : goal.returns-then-left-n
returns-then-left-n c =
    located_here c.args.self.now.image.now c.used-row-items.result.now c.loop-row.row-index c.loop-row.left c.args.at no_extent c.loop-row.invariant _ c.used-row-items.ensures c.loop-row-test.true (omega (arith, c.adds-n.ensures))

pub loop-row-preserved : goal.loop-row-preserved
loop-row-preserved c =
    located_more c.args.self.now.image.now c.used-row-items.result.now c.loop-row.row-index c.loop-row.left c.args.at no_extent c.loop-row.invariant c.loop-row-test.true c.adds-n.result c.adds-n.ensures (omega arith)

pub returns : goal.returns
returns c =
    located_none c.args.self.now.image.now c.used-row-items.result.now c.loop-row.row-index c.loop-row.left c.args.at no_extent c.loop-row.invariant _ c.used-row-items.ensures c.loop-row-test.false
