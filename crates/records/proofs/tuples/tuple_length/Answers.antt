use Rattle.std.proofs.Common.{◌+◌, sym, ap, ◌∙◌, arith}
use Rattle.std.specs.Bool.{then_some}
use Rattle.std.proofs.lemmas.Bool.{ne_eqb}
use Rattle.std.specs.Option.{option_map}
use Rattle.records.proofs.TupleTests.{unread, footless, unlike, decided}
use Rattle.records.proofs.tuples.tuple_length.Goals as goal
use Rattle.records.proofs.tuples.tuple_length.Goals.{then-again-size, else-again-size}

pub returns-in_err-size-clause-is : goal.returns-in_err-size-clause-is
returns-in_err-size-clause-is g c = c.from_residual.ensures ∙ ap (option_map (λ x. x.length)) (unread (g.S.Store.cells c.args.store.now) c.args.at 12 (omega arith) (sym c.in_err-size.ensures))

pub returns-in_err-again-clause-is : goal.returns-in_err-again-clause-is
returns-in_err-again-clause-is g c = c.from_residual-in_err-again.ensures ∙ ap (option_map (λ x. x.length)) (footless (g.S.Store.cells c.args.store.now) c.args.at _ (sym c.in_ok-size.ensures) (sym c.in_err-again.ensures))

pub returns-clause-is : goal.returns-clause-is
returns-clause-is g c =
    let cs = g.S.Store.cells c.args.store.now in
    c.then_some.ensures ∙ elim c.if-again-size.branch [
      | then-again-size w ↦
          ap (λ b. then_some b (c.in_ok-size.size + 16)) w.then_some-is
          ∙ decided cs c.args.at _ (sym c.in_ok-size.ensures) _ (sym c.synced.ensures.is ∙ c.if-not-synced.false) (sym c.in_ok-again.ensures) w.if-again-size.true w.whole.result w.whole.ensures
      | else-again-size w ↦
          ap (λ b. then_some b (c.in_ok-size.size + 16)) (w.then_some-is ∙ ne_eqb _ _ w.if-again-size.false)
          ∙ ap (option_map (λ x. x.length)) (unlike cs c.args.at _ (sym c.in_ok-size.ensures) _ (sym c.in_ok-again.ensures) w.if-again-size.false)
    ]
