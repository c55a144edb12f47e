use Rattle.std.proofs.Common.{◌≡◌, ◌-◌, length, vec_len}
use Rattle.lister.proofs.print.read_input.Given as goal

abbrev pub invariant-loop-stdin : goal.invariant-loop-stdin
invariant-loop-stdin l = length l.buffer ≡ 4096

abbrev pub decreases-loop-stdin : goal.decreases-loop-stdin
decreases-loop-stdin l = 32769 - vec_len l.all
