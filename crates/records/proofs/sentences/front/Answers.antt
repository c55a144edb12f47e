use Rattle.std.proofs.Common.{◌≡◌, ◌+◌, ◌<◌, ◌∙◌, refl, sym, ap, ⊎_elim, get_or, arith}
use Rattle.std.proofs.lemmas.List.{length-set}
use Rattle.std.proofs.lemmas.Bool.{cases_lt, false≢true}
use Rattle.records.specs.Grammars.{bytes_from}
use Rattle.records.specs.Copying.{may_stand}
use Rattle.records.proofs.Reading.{byte_next, byte_end}
use Rattle.records.proofs.Copies.{copied, no_star, cut, far, ruled_out}
use Rattle.records.proofs.sentences.front.Goals.{else-b-eq42-via-then-b-eq42+else-i-gt5, else-b-eq42-via-else-b-eq42}
use Rattle.records.proofs.sentences.front.Goals as goal

pub returns-in_err-b-clause-none : goal.returns-in_err-b-clause-none
returns-in_err-b-clause-none g c =
    let cs = g.S.Store.cells c.args.store.now in
    let i = c.loop-i.i in
    let end = byte_end cs c.args.at (c.args.at + i) i refl c.loop-i.invariant.0 (sym c.in_err-b.ensures) in
    let none = cut (bytes_from cs c.args.at) i c.loop-i.invariant.3 (omega arith) in
    rw c.from_residual.ensures none

pub returns-then-i-gt5-clause-some : goal.returns-then-i-gt5-clause-some
returns-then-i-gt5-clause-some g c =
    let cs = g.S.Store.cells c.args.store.now in
    let i = c.loop-i.i in
    let next = byte_next cs c.args.at (c.args.at + i) i refl _ c.loop-i.invariant.0 (sym c.in_ok-b.ensures) in
    record {
      early = c.loop-i-test.true;
      within = omega (arith, next.0);
      star = next.1 ∙ c.if-b-eq42.true;
      first = c.loop-i.invariant.3;
      same = copied (bytes_from cs c.args.at) c.loop-i.bytes i _ next.0 (omega (arith, c.loop-i.invariant.2)) c.loop-i.invariant.1 next.1;
    }

pub returns-then-not-may_stand-clause-none : goal.returns-then-not-may_stand-clause-none
returns-then-not-may_stand-clause-none g c =
    let cs = g.S.Store.cells c.args.store.now in
    let bs = bytes_from cs c.args.at in
    let i = c.loop-i.i in
    let next = byte_next cs c.args.at (c.args.at + i) i refl _ c.loop-i.invariant.0 (sym c.in_ok-b.ensures) in
    let few : get_or bs i 0 ≡ 42 → i < 6 =
    λ e.
    elim c.else-b-eq42.branch [
      | else-b-eq42-via-then-b-eq42+else-i-gt5 w ↦ omega (arith, w.if-i-gt5.false)
      | else-b-eq42-via-else-b-eq42 w ↦ absurd (w.if-b-eq42.false (sym next.1 ∙ e))
    ] in
    ruled_out bs i c.loop-i.invariant.3 few (ap (may_stand i) next.1 ∙ sym c.may_stand.ensures ∙ c.if-not-may_stand.true)

pub loop-i-preserved : goal.loop-i-preserved
loop-i-preserved g c =
    let cs = g.S.Store.cells c.args.store.now in
    let bs = bytes_from cs c.args.at in
    let i = c.loop-i.i in
    let next = byte_next cs c.args.at (c.args.at + i) i refl _ c.loop-i.invariant.0 (sym c.in_ok-b.ensures) in
    let here : get_or bs i 0 ≡ 42 → ⊥ = λ e. false≢true (sym (no_star i) ∙ ap (may_stand i) (sym e ∙ next.1) ∙ sym c.may_stand.ensures ∙ c.if-not-may_stand.false) in (
      next.0,
      copied bs c.loop-i.bytes i _ next.0 (omega (arith, c.loop-i.invariant.2)) c.loop-i.invariant.1 next.1,
      length-set c.loop-i.bytes i _ ∙ c.loop-i.invariant.2,
      λ k h e. ⊎_elim (λ l. c.loop-i.invariant.3 k l e) (λ l. let is : k ≡ i = omega arith in here (ap (λ j. get_or bs j 0) (sym is) ∙ e)) (cases_lt k i),
    )

pub returns-clause-none : goal.returns-clause-none
returns-clause-none g c = far (bytes_from (g.S.Store.cells c.args.store.now) c.args.at) c.loop-i.i c.loop-i.invariant.3 c.loop-i-test.false
