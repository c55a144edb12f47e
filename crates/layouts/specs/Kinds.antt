-- What bodies of a type are made of.
use Rattle.std.specs.Prelude.{ℕ, cond, ◌==◌}
use Rattle.layouts.specs.declared.kind.BodyKind.{BodyKind}
use Rattle.layouts.specs.declared.kind.BodyKind.TheVariants.{UserDefined, Sonar, Profile, SonarAndProfile, Settings, MultiSonar, Members}

-- the types of each kind; every other has fixed members, or no layout
abbrev pub kind_of : ℕ → BodyKind
kind_of t =
    cond (t == 11) UserDefined
    (cond (t == 12) Sonar
    (cond (t == 13) Profile
    (cond (t == 14) SonarAndProfile
    (cond (t == 15) Settings
    (cond (t == 21) MultiSonar
    Members)))))
