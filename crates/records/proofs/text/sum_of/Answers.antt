use Rattle.records.proofs.Texts.{masked_sum}
use Rattle.records.proofs.text.sum_of.Goals as goal

pub returns : goal.returns
returns c = masked_sum c.args.sum c.args.n c.args.v c.fits-v.0
