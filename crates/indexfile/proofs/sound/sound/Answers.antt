use Rattle.std.proofs.Common.{arith, rules}
use Rattle.std.proofs.lemmas.List.{length_push}
use Rattle.std.proofs.lemmas.Iterator.Consumers.{YieldsList-at, YieldsList-turn, YieldsList-end}
use Rattle.indexfile.proofs.Orders.{sofar_all, behind, out_of_order, one_more}
use Rattle.indexfile.proofs.sound.sound.Goals as goal

pub returns-then-not-follows : goal.returns-then-not-follows
returns-then-not-follows g c = λ all y.
    let road = YieldsList-at {steps = g.I.Iterator.next_gives} {v = λ x. x} c.into_iter-row-iterator.ensures.into_iter_gives (record { runs = y }) in
    let t = YieldsList-turn {steps = g.I.Iterator.next_gives} {v = λ x. x} road c.loop-row.yielded c.loop-row.row-iterator c.loop-row.yielded_by _ c.next.new.self c.in-Some.row c.in-Some.is c.next.ensures.steps in
    out_of_order _ c.args.counts.skipped _ _ _ _ (c.loop-row.invariant.4 all y) c.in-Some.row t.0 t.1 c.if-not-follows.ensures

pub loop-row-preserved : goal.loop-row-preserved
loop-row-preserved g c =
    let b = behind c.args.counts.place c.loop-row.end c.in-Some.row c.if-not-follows.ensures in (
      search rules,
      search rules,
      omega arith,
      omega arith,
      λ all y.
          let road = YieldsList-at {steps = g.I.Iterator.next_gives} {v = λ x. x} c.into_iter-row-iterator.ensures.into_iter_gives (record { runs = y }) in
          let t = YieldsList-turn {steps = g.I.Iterator.next_gives} {v = λ x. x} road c.loop-row.yielded c.loop-row.row-iterator c.loop-row.yielded_by _ c.next.new.self c.in-Some.row c.in-Some.is c.next.ensures.steps in
          rw length_push (one_more _ c.args.counts.skipped _ _ _ _ (c.loop-row.invariant.4 all y) c.in-Some.row t.0 t.1 c.if-not-follows.ensures),
    )

pub returns : goal.returns
returns g c = λ all y.
    let road = YieldsList-at {steps = g.I.Iterator.next_gives} {v = λ x. x} c.into_iter-row-iterator.ensures.into_iter_gives (record { runs = y }) in
    let t = YieldsList-end {steps = g.I.Iterator.next_gives} {v = λ x. x} road c.loop-row.yielded c.loop-row.row-iterator c.loop-row.yielded_by _ c.next.new.self c.in-None.is c.next.ensures.steps in
    sofar_all _ c.args.counts.skipped _ _ _ _ (c.loop-row.invariant.4 all y) (omega (arith, t.1))
