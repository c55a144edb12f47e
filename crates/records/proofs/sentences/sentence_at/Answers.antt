use Rattle.std.proofs.Common.{◌∙◌, rules}
use Rattle.records.specs.Sentences.{sentence}
use Rattle.records.specs.SentenceLaws.{sentence_reads}
use Rattle.records.proofs.Runs.{run_decides}
use Rattle.records.proofs.sentences.sentence_at.Goals as goal

pub returns-else-run-lt-LONGEST : goal.returns-else-run-lt-LONGEST
returns-else-run-lt-LONGEST g c =
    let run = c.run-run.result.now in
    c.front_sentence.ensures
    ∙ run_decides 82 sentence sentence_reads (g.S.Store.cells c.args.store.now) c.args.at run c.if-run-lt-LONGEST.false c.run-run.ensures (λ k. search rules)
