use Rattle.std.proofs.Common.{append-nil, arith}
use Rattle.std.proofs.lemmas.Grind.{common_steps}
use Rattle.listing.proofs.Copies.{copied_more}
use Rattle.index.proofs.Index.copy.Goals as goal

pub loop-i-preserved : goal.loop-i-preserved
loop-i-preserved g c = grind (arith, common_steps, copied_more)

pub returns : goal.returns
returns g c = grind (arith, common_steps, append-nil)
