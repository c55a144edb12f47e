use Rattle.std.proofs.Common.{◌≡◌, ℕ, ◌+◌, List, take, drop, ap, ◌∙◌, arith}
use Rattle.std.proofs.lemmas.Grind.{common_steps}
use Rattle.std.proofs.lemmas.List.{drop-drop}
use Rattle.layouts.specs.Numbers.{little, number}
use Rattle.layouts.proofs.Numbers.{number_read}
use Rattle.packets.proofs.packet.packet_at.Goals as goal

-- a number in a header, which stands at a place of a body
number_in : (bs header : List ℕ) (at k : ℕ) → header ≡ drop at bs → number header k 2 ≡ number bs (at + k) 2
number_in bs header at k e = ap (λ h. little (take 2 (drop k h))) e ∙ ap (λ h. little (take 2 h)) (drop-drop k at bs)

pub returns : goal.returns
returns c =
    let header : c.in_ok-header.header.now ≡ drop c.args.at c.args.body.now = grind (arith, common_steps) in
    let inside = λ (k : ℕ). number_in c.args.body.now c.in_ok-header.header.now c.args.at k header in
    grind (arith, common_steps, number_read, inside 0, inside 2, inside 4, inside 6)
