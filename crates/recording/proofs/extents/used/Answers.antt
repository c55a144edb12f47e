use Rattle.std.proofs.Common.{◌≡◌, take, min, length, ap, ◌∙◌, arith}
use Rattle.std.proofs.lemmas.List.{take_min}
use Rattle.recording.proofs.extents.used.Goals as goal

pub returns : goal.returns
returns c =
    let least : c.min.result ≡ min 64 (length c.args.rows.now) = omega arith in
    ap (λ n. take n c.args.rows.now) least ∙ take_min 64 c.args.rows.now
