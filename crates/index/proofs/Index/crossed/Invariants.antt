use Rattle.std.proofs.Common.{◌≡◌, ◌-◌}
use Rattle.listing.specs.Clearing.{first_crossing, cleared}
use Rattle.index.proofs.Index.crossed.Given as goal

abbrev pub invariant-loop-at : goal.invariant-loop-at
invariant-loop-at g l =
    let m = g.K.RecordKind.stands l.self.kind in
    let cs = g.S.Store.cells l.self.store in
    first_crossing m cs l.boundary (l.boundary - l.at) l.at ≡ cleared m cs l.boundary

abbrev pub decreases-loop-at : goal.decreases-loop-at
decreases-loop-at g l = l.boundary - l.at
