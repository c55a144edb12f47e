use Rattle.std.proofs.Common.{◌<◌, ◌≤◌, length, get_or, take, sym, ap, ◌∙◌, arith}
use lib.Bits.{bit_xor}
use lib.Count.{count_trailing_zeros}
use lib.Lanes.{chunk}
use Rattle.std.proofs.lemmas.List.Sums.{prefix_len-drop_yes}
use Rattle.records.specs.Sentences.{text_char, xored}
use Rattle.records.proofs.Texts.{run_through, run_stops, found_near, sum_more, sum_one}
use Rattle.records.proofs.text.text_at_front.Goals as goal

pub sum_of-requires : goal.sum_of-requires
sum_of-requires c =
    let found = c.strange-found in
    omega (arith, found_near c.args.bytes.now c.loop-i.i 16 (omega arith) (omega arith) (omega (arith, found.ensures)), ap (count_trailing_zeros 64) found.ensures)

pub returns-then-found-ne0-clause-len : goal.returns-then-found-ne0-clause-len
returns-then-found-ne0-clause-len c =
    let found = c.strange-found in
    let run = run_stops c.args.bytes.now c.loop-i.i 16 (omega arith) (omega arith) (omega (arith, found.ensures)) ∙ ap (count_trailing_zeros 64) (sym found.ensures) in
    omega (arith, run, c.loop-i.invariant.0)

pub returns-then-found-ne0-clause-sum : goal.returns-then-found-ne0-clause-sum
returns-then-found-ne0-clause-sum c =
    let found = c.strange-found in
    let bs = c.args.bytes.now in
    let i = c.loop-i.i in
    let n = count_trailing_zeros 64 found.result in
    let near : n ≤ 16 = omega (arith, found_near bs i 16 (omega arith) (omega arith) (omega (arith, found.ensures)), ap (count_trailing_zeros 64) found.ensures) in
    c.sum_of.ensures ∙ ap (λ s. xored s (take n (chunk i 16 bs))) c.loop-i.invariant.2 ∙ sum_more c.args.name_sum i n bs near

pub loop-i-preserved : goal.loop-i-preserved
loop-i-preserved c =
    let bs = c.args.bytes.now in
    let i = c.loop-i.i in
    let run = run_through bs i 16 (omega arith) (omega (arith, c.strange-found.ensures)) in (
      omega (arith, run, c.loop-i.invariant.0),
      omega arith,
      c.sum_of-sum.ensures ∙ ap (λ s. xored s (take 16 (chunk i 16 bs))) c.loop-i.invariant.2 ∙ sum_more c.args.name_sum i 16 bs (omega arith),
    )

pub loop-i-2-preserved : goal.loop-i-2-preserved
loop-i-2-preserved c =
    let bs = c.args.bytes.now in
    let i = c.loop-i-2.i in
    let room : i < length bs = omega arith in
    let run = prefix_len-drop_yes text_char bs i 0 room (sym c.is_text_char.ensures ∙ c.if-is_text_char.true) in (
      omega (arith, run, c.loop-i-2.invariant.0),
      omega arith,
      ap (λ s. bit_xor s (get_or bs i 0)) c.loop-i-2.invariant.2 ∙ sum_one c.args.name_sum i bs room,
    )
