use Rattle.std.proofs.Common.{rules}
use Rattle.layouts.proofs.Walks.{total_sum}
use Rattle.layouts.proofs.letters.total.Goals as goal

pub returns : goal.returns
returns c = search (rules, total_sum)
