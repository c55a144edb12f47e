use Rattle.std.proofs.Common.{◌≡◌, drop}
use Rattle.lister.specs.Words.{number_on}
use Rattle.lister.proofs.words.number.Given as goal

abbrev pub invariant-loop-digit : goal.invariant-loop-digit
invariant-loop-digit l = number_on (drop l.digit-index l.text) l.n ≡ number_on l.text 0
