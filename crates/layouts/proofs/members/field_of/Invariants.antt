use Rattle.std.proofs.Common.{◌≡◌, ◌+◌, ◌*◌, ◌≤◌, drop}
use Rattle.std.specs.Option.{option_map}
use Rattle.layouts.specs.Letters.{field_of}
use Rattle.layouts.specs.Members.{present}
use Rattle.layouts.proofs.members.field_of.Given as goal

abbrev pub invariant-loop-stands : goal.invariant-loop-stands
invariant-loop-stands l =
    (option_map (λ p. (l.at + p.0, p.1)) (field_of (present l.settings.version l.settings.altimeter (drop l.stands-index l.members)) l.left) ≡ field_of (present l.settings.version l.settings.altimeter l.members) l.fn.n)
    × (l.at ≤ 255 * l.stands-index)
