use Rattle.std.proofs.Common.{◌≡◌, ℕ, ◌<◌, ◌≤◌, length, get_or, take}
use Rattle.records.specs.Grammars.{bytes_from}
use Rattle.records.proofs.sentences.front.Given as goal

abbrev pub invariant-loop-i : goal.invariant-loop-i
invariant-loop-i g l =
    (l.i ≤ length (bytes_from (g.S.Store.cells l.store) l.at)) × (take l.i l.bytes ≡ take l.i (bytes_from (g.S.Store.cells l.store) l.at)) × (length l.bytes ≡ 82)
    × ((k : ℕ) → k < l.i → get_or (bytes_from (g.S.Store.cells l.store) l.at) k 0 ≡ 42 → ⊥)
