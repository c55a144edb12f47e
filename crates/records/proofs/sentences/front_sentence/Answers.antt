use Rattle.std.proofs.Common.{◌≡◌, ℕ, ◌-◌, ◌≤◌, List, length, take, drop, sym, ◌∙◌, arith, length-drop, rules}
use Rattle.std.proofs.lemmas.List.{take_all}
use Rattle.std.proofs.lemmas.Bool.{and_from, eq-eqb}
use Rattle.records.proofs.SentenceTests.{short, tailless, stands}
use Rattle.records.proofs.sentences.front_sentence.Goals as goal

-- what follows the five characters
behind : (bs : List ℕ) → take (length bs - 6) (drop 6 bs) ≡ drop 6 bs
behind bs = take_all (length bs - 6) (drop 6 bs) (omega (arith, length-drop 6 bs))

pub returns-in_default : goal.returns-in_default
returns-in_default c = short c.args.bytes.now c.in_default.len_below

pub returns-in_err-length : goal.returns-in_err-length
returns-in_err-length c =
    let bs = c.args.bytes.now in
    let long : 6 ≤ length bs = search rules in
    c.from_residual.ensures ∙ tailless bs _ long (behind bs) (sym c.in_err-length.ensures)

pub returns : goal.returns
returns c =
    let bs = c.args.bytes.now in
    let long : 6 ≤ length bs = search rules in
    stands bs _ long (behind bs) (and_from _ _ (eq-eqb _ _ c.if-s-ne36.false) (sym c.is_address.ensures ∙ c.if-not-is_address.false)) _ (sym c.in_ok-length.ensures)
