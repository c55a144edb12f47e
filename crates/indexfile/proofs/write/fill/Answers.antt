use Rattle.std.proofs.Common.{◌+◌, ◌*◌, ◌++◌, get_or, drop, refl, ap, ◌∙◌, arith, below_none, below_more}
use Rattle.indexfile.specs.Files.{row_bytes, head_bytes}
use Rattle.indexfile.specs.Written.{Wide, no_row}
use Rattle.indexfile.proofs.Bytes.{part_set}
use Rattle.indexfile.proofs.Writes.{rows_more, rows_all}
use Rattle.indexfile.proofs.write.fill.Goals as goal

pub loop-n-init : goal.loop-n-init
loop-n-init c = (refl, below_none _)

pub loop-n-preserved : goal.loop-n-preserved
loop-n-preserved c = (
  rows_more c.args.rows.now c.loop-n.n c.loop-n.buffer _ c.loop-n-test.true (omega arith) (part_set c.loop-n.buffer c.put_row.new.slot (row_bytes (get_or c.args.rows.now c.loop-n.n no_row)) (16 + 20 * c.loop-n.n) c.put_row.ensures.bytes) ∙ c.loop-n.invariant.0,
  below_more (λ k. Wide (get_or c.args.rows.now k no_row)) c.loop-n.n c.loop-n.invariant.1 c.put_row.ensures.wide,
)

pub returns : goal.returns
returns c =
    record {
      bytes = rows_all c.args.counts.place c.args.counts.skipped c.args.rows.now c.loop-n.n c.args.buffer.now c.put_head.new.slot c.loop-n.buffer c.loop-n-test.false c.requires.room (c.put_head.ensures ∙ ap (λ k. head_bytes k c.args.counts.place c.args.counts.skipped ++ drop 16 c.args.buffer.now) c.requires.all) c.loop-n.invariant.0;
      wide = λ k h. c.loop-n.invariant.1 k (omega arith);
    }
