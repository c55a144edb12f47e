use Rattle.lister.proofs.Spelling.{behind_is}
use Rattle.lister.proofs.words.behind.Goals as goal

pub returns : goal.returns
returns c = record { value = behind_is (λ s. s.now) c.args.front.now c.args.text.now c.strip_prefix.result c.strip_prefix.ensures.cases }
