use Rattle.std.proofs.Common.{◌*◌}
use Rattle.records.specs.Searching.{Unlike}
use Rattle.records.proofs.search.Pair.missing.Given as goal

abbrev pub invariant-loop-block : goal.invariant-loop-block
invariant-loop-block l = Unlike l.self l.run (l.block * 32)

abbrev pub invariant-loop-at : goal.invariant-loop-at
invariant-loop-at l = Unlike l.self l.run l.at
