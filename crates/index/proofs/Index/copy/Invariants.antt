use Rattle.std.proofs.Common.{◌≡◌, ◌++◌, drop}
use Rattle.listing.specs.Fetching.{bytes_at}
use Rattle.index.proofs.Index.copy.Given as goal

abbrev pub invariant-loop-i : goal.invariant-loop-i
invariant-loop-i g l = l.buffer ≡ bytes_at (g.S.Store.cells l.self.store) l.at l.i ++ drop l.i l.initial.buffer
