use Rattle.std.proofs.Common.{◌≡◌, min, length, take, ap, ◌∙◌, arith, take-take}
use Rattle.std.proofs.lemmas.List.{take_min}
use Rattle.recording.specs.Cells.{bytes_only}
use Rattle.recording.proofs.plain.Plain.new.Goals as goal

pub returns : goal.returns
returns c =
    let bs = c.args.bytes.now in
    let least : c.min.result ≡ min 2147483647 (length bs) = omega arith in
    ap bytes_only (ap (take 2147483647) (ap (λ n. take n bs) least ∙ take_min 2147483647 bs) ∙ take-take 2147483647 2147483647 bs (omega arith))
