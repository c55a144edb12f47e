use Rattle.std.proofs.Common.{◌≡◌, ◌+◌, ◌≤◌, length, take}
use Rattle.records.specs.Grammars.{bytes_from}
use Rattle.records.proofs.sentences.copied_sentence.Given as goal

abbrev pub invariant-loop-k : goal.invariant-loop-k
invariant-loop-k g l =
    (l.star + l.k ≤ length (bytes_from (g.S.Store.cells l.store) l.at)) × (take (l.star + l.k) l.bytes ≡ take (l.star + l.k) (bytes_from (g.S.Store.cells l.store) l.at)) × (length l.bytes ≡ 82)
