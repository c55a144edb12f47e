use Rattle.records.proofs.Searches.{no_sentence, first_dollar}
use Rattle.records.proofs.sentences.SentencesRecordKind.vacant.Goals as goal

pub returns : goal.returns
returns c =
    let run = c.args.run.now in
    let far = first_dollar run c.memchr.result c.unwrap_or.result c.memchr.ensures c.unwrap_or.ensures in
    record { within = far.0; none = no_sentence run c.unwrap_or.result (λ k. (c.type_inv.run k).fits) far.0 far.1 }
