use Rattle.std.proofs.Common.{◌≡◌, not, drop}
use Rattle.bodies.specs.User.{first_from, is_letter}
use Rattle.bodies.proofs.user.first_wrong.Given as goal

abbrev pub invariant-loop-i : goal.invariant-loop-i
invariant-loop-i l = first_from (λ b. not (is_letter b)) l.i (drop l.i l.format) ≡ first_from (λ b. not (is_letter b)) 0 l.format
