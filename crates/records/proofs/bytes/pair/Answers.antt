use Rattle.std.proofs.Common.{◌≡◌, ◌+◌, ◌*◌, Some, sym, ap, ◌∙◌, arith}
use Rattle.records.proofs.Reading.{within, no_pair, the_pair}
use Rattle.records.proofs.bytes.pair.Goals as goal

pub overflow_add-at : goal.overflow_add-at
overflow_add-at g c = omega (arith, within _ c.args.at _ (sym c.in_ok-low.ensures), g.S.Store.bounded c.args.store.now)

pub returns-in_err-high : goal.returns-in_err-high
returns-in_err-high g c = c.from_residual-in_err-high.ensures ∙ sym (no_pair (g.S.Store.cells c.args.store.now) c.args.at _ (sym c.in_ok-low.ensures) (sym c.in_err-high.ensures))

pub returns : goal.returns
returns g c =
    let number : c.from_le_bytes.result ≡ c.in_ok-low.low + 256 * c.in_ok-high.high = omega arith in
    ap Some number ∙ sym (the_pair (g.S.Store.cells c.args.store.now) c.args.at _ (sym c.in_ok-low.ensures) _ (sym c.in_ok-high.ensures))
