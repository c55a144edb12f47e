-- Whether a body is sound.
use Rattle.std.specs.Prelude.{ℕ, Bool, cond, ◌||◌, List, Option, Result, ◌==◌}
use Rattle.std.specs.Option.{ok_or}
use Rattle.std.specs.Result.{result_map_both}
use Rattle.layouts.specs.declared.settings.Counter.{Counter}
use Rattle.layouts.specs.Catalogue.{fixed_body}
use Rattle.layouts.specs.Checks.{and_then, sound}
use Rattle.layouts.specs.Settings.{settings_body}
use Rattle.packets.specs.Packets.{sonar_body, profile_body, pair_body, multi_body}
use Rattle.bodies.specs.declared.fault.BodyFault.{BodyFault}
use Rattle.bodies.specs.declared.fault.BodyFault.TheVariants as body
use Rattle.bodies.specs.declared.fault.TupleFault.{TupleFault}
use Rattle.bodies.specs.declared.fault.Wrong.{Wrong}
use Rattle.bodies.specs.declared.fault.Wrong.TheVariants as wrong
use Rattle.bodies.specs.Faults.{tuple_fault_of}
use Rattle.bodies.specs.User.{user_of}

-- the types whose counters only settings tell
abbrev pub needs_settings : ℕ → Bool
needs_settings t = t == 12 || t == 14 || t == 21

-- an answer, its fault told of more
abbrev pub lifted : {T E F : Type 0} → (E → F) → Result T E → Result T F
lifted f r = result_map_both (λ x. x) f r

-- a body of a type; those that are none of these are fixed, or have no layout
abbrev pub body_of : ℕ → Counter → List ℕ → Result (Unit {0}) BodyFault
body_of t counter bs =
    cond (t == 11) (lifted body.User (sound (user_of bs)))
    (cond (t == 12) (lifted body.Packets (sonar_body counter bs))
    (cond (t == 13) (lifted body.Packets (profile_body bs))
    (cond (t == 14) (lifted body.Packets (pair_body counter bs))
    (cond (t == 15) (lifted body.Members (settings_body bs))
    (cond (t == 21) (lifted body.Packets (multi_body counter bs))
    (lifted body.Members (sound (fixed_body t bs))))))))

-- the same by what was settled, if anything was
abbrev pub settled_of : ℕ → Option Counter → List ℕ → Result (Unit {0}) Wrong
settled_of t settled bs = and_then (ok_or settled wrong.NoSettings) (λ counter. lifted wrong.Body (body_of t counter bs))

-- a tuple of a type
abbrev pub tuple_of : ℕ → Option Counter → List ℕ → Result (Unit {0}) TupleFault
tuple_of t settled bs = lifted (λ w. tuple_fault_of (t, w)) (settled_of t settled bs)
