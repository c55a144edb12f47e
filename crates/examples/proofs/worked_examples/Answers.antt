use Rattle.std.proofs.Common.{refl}
use Rattle.examples.proofs.Computed.{all_hold}
use Rattle.examples.proofs.worked_examples.Goals as goal

pub returns : goal.returns
returns c = record { count = refl; hold = all_hold }
