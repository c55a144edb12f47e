use Rattle.std.proofs.Common.{◌≤◌, List, length}
use Rattle.std.specs.Iterator.{AlwaysYields}
use Rattle.indexfile.specs.declared.row.Row.{Row}
use Rattle.indexfile.proofs.Orders.{Sofar}
use Rattle.indexfile.proofs.sound.sound.Given as goal

abbrev pub invariant-loop-row : goal.invariant-loop-row
invariant-loop-row g l =
    ((goal.iterator-loop-row g).can_next l.row-iterator) × ((goal.iterator-loop-row g).is_finite l.row-iterator)
    × (l.sum ≤ l.end) × (l.end ≤ l.counts.place)
    × ((all : List Row) → AlwaysYields g.I.Iterator.next_gives {B = Row} (λ x. x) l.fn.rows all → Sofar l.counts.place all (length l.yielded) l.end l.sum)
