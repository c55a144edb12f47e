use Rattle.std.proofs.Common.{◌≡◌, ◌+◌, length, take, drop, sym, ap, ◌∙◌, arith, rules}
use Rattle.std.specs.Option.{option_zip}
use Rattle.std.proofs.lemmas.List.{at_drop_all}
use Rattle.lister.specs.Words.{number_of, pair_on}
use Rattle.lister.proofs.Spelling.{pair_until, pair_here, rest}
use Rattle.lister.proofs.words.pair.Goals as goal

pub returns-in_err-at : goal.returns-in_err-at
returns-in_err-at c =
    let text = c.args.text.now in
    c.from_residual.ensures ∙ sym (at_drop_all (pair_on (take (length text) text)) text (length text) (omega arith)) ∙ pair_until text (length text) (omega arith) c.in_err-at.ensures.none

pub returns : goal.returns
returns c =
    let text = c.args.text.now in
    let i = c.in_ok-at.at in
    let found = c.in_ok-at.ensures.some in
    let before : c.number.result ≡ number_of (take i text) = search rules in
    let after : c.number-2.result ≡ number_of (drop (i + 1) text) = c.number-2.ensures ∙ ap number_of (rest text (i + 1)) in
    c.zip.ensures ∙ (λ j. option_zip (before j) (after j)) ∙ pair_here text i found.0 found.1 ∙ pair_until text i (omega (arith, found.0)) found.2
