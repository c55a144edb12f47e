use Rattle.std.proofs.Common.{◌∙◌, rules}
use Rattle.indexfile.proofs.Numbered.{row_read}
use Rattle.indexfile.proofs.file.IndexFile.row.Goals as goal

pub returns : goal.returns
returns c = c.ok_or.ensures.value ∙ row_read c.args.self.now.bytes.now c.args.n c.rows_behind.result.now c.rows_behind.ensures (λ p x k. search rules) _ c.get.result c.map.result c.get.ensures.lookup.3 c.get.ensures.lookup.1 c.map.ensures.cases
