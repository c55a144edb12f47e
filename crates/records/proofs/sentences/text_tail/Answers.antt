use Rattle.std.proofs.Common.{◌≡◌, ℕ, ◌+◌, ◌-◌, Bool, true, false, cond, List, Some, None, length, take, drop, refl, ap, ◌∙◌, arith, length-drop}
use Rattle.std.specs.Bool.{then_some}
use Rattle.std.proofs.lemmas.List.{take_all}
use Rattle.records.specs.Sentences.{closing, begins}
use Rattle.records.proofs.SentenceTests.{too_long, endless, starless, closed, comma_kept}
use Rattle.records.proofs.sentences.text_tail.Goals.{then-n-gt71-via-then-n-gt71, then-n-gt71-via-else-n-gt71+then-n-rest, then-n-gt71-via-else-n-gt71+else-n-rest+then-rest-n-ne42}
use Rattle.records.proofs.sentences.text_tail.Goals as goal

by_cond : (b : Bool) (n : ℕ) → then_some b n ≡ cond b (Some n) None
by_cond true n = refl
by_cond false n = refl

-- what stands behind the star
behind : (rest : List ℕ) (k : ℕ) → take (length rest - (k + 1)) (drop (k + 1) rest) ≡ drop (k + 1) rest
behind rest k = take_all _ (drop (k + 1) rest) (omega (arith, length-drop (k + 1) rest))

pub returns-then-n-gt71 : goal.returns-then-n-gt71
returns-then-n-gt71 c =
    let sum = c.args.name_sum in
    let rest = c.args.rest.now in
    let read = c.text_at_front-n in
    elim c.then-n-gt71.branch [
      | then-n-gt71-via-then-n-gt71 w ↦ too_long sum c.min.result read.result.0 rest c.min.ensures read.ensures.len (omega arith)
      | then-n-gt71-via-else-n-gt71+then-n-rest w ↦ endless sum c.min.result read.result.0 rest c.min.ensures read.ensures.len (omega arith)
      | then-n-gt71-via-else-n-gt71+else-n-rest+then-rest-n-ne42 w ↦ starless sum c.min.result read.result.0 rest c.min.ensures read.ensures.len (omega arith) (omega arith) w.if-rest-n-ne42.true
    ]

pub returns : goal.returns
returns c =
    let rest = c.args.rest.now in
    let read = c.text_at_front-n in
    let n = read.result.0 in
    c.then_some.ensures ∙ by_cond c.closes.result (n + 11)
    ∙ ap (λ b. cond b (Some (n + 11)) None) (c.closes.ensures ∙ ap (begins (closing read.result.1)) (behind rest n) ∙ ap (λ s. begins (closing s) (drop (n + 1) rest)) read.ensures.sum)
    ∙ closed c.args.name_sum c.min.result n rest c.min.ensures read.ensures.len (omega arith) (omega arith) c.if-rest-n-ne42.false (comma_kept n rest c.requires)
