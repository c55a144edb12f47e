use Rattle.std.proofs.Common.{rules}
use Rattle.listing.proofs.Clearness.{told}
use Rattle.index.proofs.Index.clear.Goals as goal

pub returns-clause-tells : goal.returns-clause-tells
returns-clause-tells g c = told (g.K.RecordKind.laws c.args.self.now.kind) _ _ _ _ (search rules)
