use Rattle.std.proofs.Common.{arith}
use Rattle.std.proofs.lemmas.Grind.{common_steps}
use Rattle.listing.proofs.Settles.{body_at, too_long}
use Rattle.index.proofs.Index.counter_at.Goals as goal

pub returns-in_err-body : goal.returns-in_err-body
returns-in_err-body g c = grind (arith, common_steps, too_long)

pub returns : goal.returns
returns g c = grind (arith, common_steps, body_at)
