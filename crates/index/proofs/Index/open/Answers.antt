use Rattle.std.proofs.Common.{refl}
use Rattle.listing.proofs.Promised.{promised}
use Rattle.index.proofs.Index.open.Goals as goal

pub returns : goal.returns
returns g c = record { owns = (refl, refl); new = λ table. refl; promise = promised (g.K.RecordKind.laws c.args.kind) (g.S.Store.cells c.args.store) }
