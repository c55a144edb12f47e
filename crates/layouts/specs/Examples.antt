-- Worked examples of settings.
use Rattle.std.specs.Prelude.{◌≡◌, ℕ, ◌-◌, ◌/◌, ◌%◌, List, [], ◌∷◌, replicate, Ok, Err, Result, slice_set}
use Rattle.layouts.specs.declared.fault.LayoutFault.{LayoutFault}
use Rattle.layouts.specs.declared.fault.LayoutFault.TheVariants as fault
use Rattle.layouts.specs.Settings.{settings_body}

-- so many bytes, zero but for Version, HeadControllerVersion and HidType
abbrev pub example : ℕ → ℕ → ℕ → List ℕ
example v n hid = slice_set (slice_set (slice_set (slice_set (replicate n 0) 13 v) (n - 30) v) (n - 94) (hid % 256)) (n - 93) (hid / 256)

-- bodies, and what is found of each: the altimeter's layout of version 5 wants its HidType, and version 11 has 222 bytes
abbrev pub examples : List (List ℕ × Result (Unit {0}) LayoutFault)
examples =
    (example 5 205 0x1007, Ok tt)
    ∷ (example 5 205 0x0971, Err (fault.HidType 111))
    ∷ (example 11 222 0, Ok tt)
    ∷ (example 11 221 0, Err fault.Length)
    ∷ []

-- every example is judged as it says
abbrev pub Judged : List (List ℕ × Result (Unit {0}) LayoutFault) → Type 0
Judged [] = Unit {0}
Judged (e ∷ es) = (settings_body e.0 ≡ e.1) × Judged es

-- all of the examples
abbrev pub Examples : Type 0
Examples = Judged examples
