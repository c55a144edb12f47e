use Rattle.std.proofs.Common.{arith}
use Rattle.recording.proofs.Lists.{length-plain}
use Rattle.recording.proofs.plain.PlainStore.len.Goals as goal

pub returns : goal.returns
returns c = omega (arith, c.min.ensures, c.args.self.now.small, length-plain c.args.self.now.bytes.now c.args.self.now.small)
