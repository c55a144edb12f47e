use Rattle.std.proofs.Common.{◌≡◌, ◌+◌, ◌-◌, ◌<◌, length, drop, get_or, Ok, sym, ap, ◌∙◌, arith, length-take, get_or-drop, get_or-take}
use Rattle.recording.specs.declared.Cell.TheVariants.{Byte}
use Rattle.recording.specs.Cells.{cell_at}
use Rattle.recording.proofs.Lists.{plain_all, at_bytes}
use Rattle.recording.proofs.plain.PlainStore.run.Goals as goal

pub returns : goal.returns
returns c k h =
    let bs = c.args.self.now.bytes.now in
    let at = c.args.at in
    let from = c.min.result in
    let n = length bs - from in
    let lt : k < n = omega (arith, length-take n (drop from bs)) in
    let here : from ≡ at = omega arith in
    let within : at + k < length bs = omega arith in
    ap (λ cs. cell_at cs (at + k)) (plain_all bs c.args.self.now.small) ∙ at_bytes bs (at + k) within
    ∙ ap (λ b. Ok (Byte b)) (sym (get_or-take n (drop from bs) k 0 lt ∙ get_or-drop from bs k 0 ∙ ap (λ q. get_or bs (q + k) 0) here))
