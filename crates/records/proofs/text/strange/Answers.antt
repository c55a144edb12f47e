use Rattle.std.proofs.Common.{arith}
use Rattle.std.proofs.lemmas.Simd.{zip2_splat}
use Rattle.records.proofs.Texts.{hit, below, at_most, either, from_splat, masked}
use Rattle.records.proofs.text.strange.Goals as goal

pub returns : goal.returns
returns c =
    let v = c.args.v in
    let long = c.fits-v.0 in
    masked v _ (omega arith) c.fits-v.1
    (either _ _ v (either _ _ v (either _ _ v (either _ _ v (zip2_splat below v 16 32 long) (from_splat at_most v 16 127 long)) (zip2_splat hit v 16 36 long)) (zip2_splat hit v 16 33 long)) (zip2_splat hit v 16 42 long))
