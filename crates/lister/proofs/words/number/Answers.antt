use Rattle.std.proofs.Common.{sym, ◌∙◌, rules}
use Rattle.std.proofs.lemmas.List.{at_drop_all}
use Rattle.lister.specs.Words.{number_on}
use Rattle.lister.proofs.Spelling.{digit_more, digit_none, some_digits}
use Rattle.lister.proofs.words.number.Goals as goal

pub returns-in_err-n : goal.returns-in_err-n
returns-in_err-n c =
    c.from_residual.ensures ∙ digit_none c.args.text.now c.loop-digit.digit-index c.loop-digit.n c.loop-digit-test.true c.in_err-n.ensures ∙ c.loop-digit.invariant ∙ some_digits c.args.text.now c.if-is_empty.ensures

pub loop-digit-preserved : goal.loop-digit-preserved
loop-digit-preserved c =
    digit_more c.args.text.now c.loop-digit.digit-index c.loop-digit.n _ c.loop-digit-test.true c.in_ok-n.ensures ∙ c.loop-digit.invariant

pub returns : goal.returns
returns c =
    sym (at_drop_all (λ ds. number_on ds c.loop-digit.n) c.args.text.now c.loop-digit.digit-index c.loop-digit-test.false) ∙ c.loop-digit.invariant ∙ some_digits c.args.text.now c.if-is_empty.ensures
