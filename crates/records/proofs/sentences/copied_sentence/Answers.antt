use Rattle.std.proofs.Common.{◌≡◌, ◌+◌, ◌∙◌, refl, sym, take, slice_set, ap, arith}
use Rattle.std.proofs.lemmas.List.{length-set}
use Rattle.records.specs.Grammars.{bytes_from}
use Rattle.records.specs.Copying.{may_close}
use Rattle.records.proofs.Reading.{byte_next, byte_end}
use Rattle.records.proofs.Copies.{copied, unclosed, unclosing, decided}
use Rattle.records.proofs.sentences.copied_sentence.Goals as goal

pub returns-in_err-b : goal.returns-in_err-b
returns-in_err-b g c =
    let cs = g.S.Store.cells c.args.store.now in
    let n = c.in_ok-star.star in
    let found = c.in_ok-star.ensures.some in
    let end = byte_end cs c.args.at (c.args.at + (n + c.loop-k.k)) (n + c.loop-k.k) refl c.loop-k.invariant.0 (sym c.in_err-b.ensures) in
    c.from_residual-in_err-b.ensures ∙ sym (unclosed (bytes_from cs c.args.at) n found.first found.star (omega arith))

pub returns-then-not-may_close : goal.returns-then-not-may_close
returns-then-not-may_close g c =
    let cs = g.S.Store.cells c.args.store.now in
    let n = c.in_ok-star.star in
    let k = c.loop-k.k in
    let found = c.in_ok-star.ensures.some in
    let next = byte_next cs c.args.at (c.args.at + (n + k)) (n + k) refl _ c.loop-k.invariant.0 (sym c.in_ok-b.ensures) in
    sym (unclosing (bytes_from cs c.args.at) n found.first found.star k (omega arith) c.loop-k-test.true (ap (may_close k) next.1 ∙ sym c.may_close.ensures ∙ c.if-not-may_close.true))

pub loop-k-preserved : goal.loop-k-preserved
loop-k-preserved g c =
    let cs = g.S.Store.cells c.args.store.now in
    let bs = bytes_from cs c.args.at in
    let i = c.in_ok-star.star + c.loop-k.k in
    let on : i + 1 ≡ c.in_ok-star.star + (c.loop-k.k + 1) = omega arith in
    let next = byte_next cs c.args.at (c.args.at + i) i refl _ c.loop-k.invariant.0 (sym c.in_ok-b.ensures) in
    let more = copied bs c.loop-k.bytes i _ next.0 (omega (arith, c.in_ok-star.ensures.some.early, c.loop-k.invariant.2)) c.loop-k.invariant.1 next.1 in (
      omega (arith, next.0),
      ap (λ m. take m (slice_set c.loop-k.bytes i c.in_ok-b.b)) (sym on) ∙ more ∙ ap (λ m. take m bs) on,
      length-set c.loop-k.bytes i _ ∙ c.loop-k.invariant.2,
    )

pub returns : goal.returns
returns g c =
    let cs = g.S.Store.cells c.args.store.now in
    let n = c.in_ok-star.star + 5 in
    let all : c.in_ok-star.star + c.loop-k.k ≡ n = omega arith in
    c.front_sentence.ensures
    ∙ decided cs c.args.at c.in_ok-star.star c.front.new.bytes _ c.in_ok-star.ensures.some (sym (ap (λ k. take k c.loop-k.bytes) all) ∙ c.loop-k.invariant.1 ∙ ap (λ k. take k (bytes_from cs c.args.at)) all)
