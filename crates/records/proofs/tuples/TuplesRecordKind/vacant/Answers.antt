use Rattle.records.proofs.Searches.{unlike_within, no_tuple}
use Rattle.records.proofs.tuples.TuplesRecordKind.vacant.Goals as goal

pub returns : goal.returns
returns c = record {
  within = unlike_within _ c.args.run.now c.missing.result c.missing.ensures;
  none = no_tuple c.args.run.now c.missing.result (λ k. (c.type_inv.run k).fits) c.missing.ensures;
}
