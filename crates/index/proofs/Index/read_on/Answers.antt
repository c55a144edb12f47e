use Rattle.std.proofs.Common.{arith}
use Rattle.index.proofs.Scans.{run_ended, run_spent, run_full, one_more, passed}
use Rattle.index.proofs.Index.read_on.Goals as goal

pub returns-then-tests-budget : goal.returns-then-tests-budget
returns-then-tests-budget g c = run_spent c.loop-self.invariant (omega arith) (omega arith)

pub returns-then-not-turn : goal.returns-then-not-turn
returns-then-not-turn g c = run_full c.loop-self.invariant (omega arith) (omega arith) c.if-not-turn.ensures

pub loop-self-preserved : goal.loop-self-preserved
loop-self-preserved g c = passed (one_more c.loop-self.invariant (omega arith) (omega arith) c.if-not-turn.ensures) c.pass-tests.ensures

pub returns : goal.returns
returns g c = run_ended c.loop-self.invariant (omega arith)
