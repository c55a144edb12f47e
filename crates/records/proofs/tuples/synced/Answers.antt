use Rattle.std.proofs.Common.{sym, ◌∙◌}
use Rattle.records.proofs.Reading.{same_some}
use Rattle.records.proofs.TupleTests.{mark_by}
use Rattle.records.proofs.tuples.synced.Goals as goal

pub returns-then-eq-clause-is : goal.returns-then-eq-clause-is
returns-then-eq-clause-is g c =
    let low = same_some c.byte.result 0 (sym c.eq.ensures ∙ c.if-eq.true) in
    c.eq-then-eq.ensures ∙ mark_by (g.S.Store.cells c.args.store.now) c.args.at (sym c.byte.ensures ∙ low) c.byte-then-eq.result (sym c.byte-then-eq.ensures)
