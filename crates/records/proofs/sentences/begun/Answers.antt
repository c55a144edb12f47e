use Rattle.std.proofs.Common.{◌≡◌, ℕ, Bool, true, false, not, nat_eq, Some, IfSome, IfNone, refl, sym, ap, ◌∙◌}
use Rattle.std.specs.Bool.{then_some}
use Rattle.std.specs.Option.{option_eq}
use Rattle.records.proofs.Copies.{alone, unnamed, named}
use Rattle.records.proofs.sentences.begun.Goals as goal

some_by : (t : Bool) (b : ℕ) (P : ℕ → Type 0) → (t ≡ true → P b) → IfSome (then_some t b) P
some_by true b P h = h refl
some_by false b P h = tt

none_by : (t : Bool) (b : ℕ) (P : Type 0) → (t ≡ false → P) → IfNone (then_some t b) P
none_by true b P h = tt
none_by false b P h = h refl

pub returns-in_err-b-clause-none : goal.returns-in_err-b-clause-none
returns-in_err-b-clause-none g c =
    let none = alone (g.S.Store.cells c.args.store.now) c.args.at (c.if-ne.ensures ∙ ap (λ o. not (option_eq nat_eq o (Some 36))) c.byte.ensures) (sym c.in_err-b.ensures) in
    rw c.from_residual.ensures none

pub returns-clause-some : goal.returns-clause-some
returns-clause-some g c =
    let mark = c.if-ne.ensures ∙ ap (λ o. not (option_eq nat_eq o (Some 36))) c.byte.ensures in
    let told = some_by c.is_name.result c.in_ok-b.b _ (λ e. named (g.S.Store.cells c.args.store.now) c.args.at mark c.in_ok-b.b (sym c.in_ok-b.ensures) (sym c.is_name.ensures ∙ e)) in
    rw c.then_some.ensures told

pub returns-clause-none : goal.returns-clause-none
returns-clause-none g c =
    let mark = c.if-ne.ensures ∙ ap (λ o. not (option_eq nat_eq o (Some 36))) c.byte.ensures in
    let told = none_by c.is_name.result c.in_ok-b.b _ (λ e. unnamed (g.S.Store.cells c.args.store.now) c.args.at mark c.in_ok-b.b (sym c.in_ok-b.ensures) (sym c.is_name.ensures ∙ e)) in
    rw c.then_some.ensures told
