use Rattle.std.proofs.Common.{◌+◌, sym, ap, ◌∙◌, arith}
use Rattle.std.proofs.lemmas.List.{take_all}
use Rattle.recording.specs.Marks.{lost_at}
use Rattle.recording.proofs.Losses.{unmarked_more, no_stretch}
use Rattle.recording.proofs.stretches.unmarked.Goals as goal

pub loop-row-preserved : goal.loop-row-preserved
loop-row-preserved c = (
  omega (arith, c.before-free.ensures.within, c.loop-row.invariant.0),
  λ k h. unmarked_more c.args.rows.now c.loop-row.row-index (c.args.at + k) no_stretch c.loop-row-test.true (c.loop-row.invariant.1 k (omega (arith, c.before-free.ensures.within))) (c.before-free.ensures.none k h),
)

pub returns : goal.returns
returns c = record {
  within = c.loop-row.invariant.0;
  none = λ k h. ap (λ rows. lost_at rows (c.args.at + k)) (sym (take_all c.loop-row.row-index c.args.rows.now c.loop-row-test.false)) ∙ c.loop-row.invariant.1 k h;
}
