use Rattle.std.proofs.Common.{arith}
use Rattle.std.proofs.lemmas.Grind.{common_steps}
use Rattle.listing.proofs.Clears.{none_left, here, past, late}
use Rattle.index.proofs.Vacancies.{past_none}
use Rattle.index.proofs.Index.crossed.Goals as goal

pub loop-at-init : goal.loop-at-init
loop-at-init g c = grind (arith, common_steps, late)

pub loop-at-preserved : goal.loop-at-preserved
loop-at-preserved g c = grind (arith, common_steps, past, past_none)

pub returns-then-ends_after : goal.returns-then-ends_after
returns-then-ends_after g c = grind (arith, common_steps, here)

pub returns : goal.returns
returns g c = grind (arith, common_steps, none_left)
