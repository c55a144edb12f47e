-- Settings.
use Rattle.std.specs.Prelude.{ℕ, ◌+◌, ◌-◌, Bool, true, false, cond, ◌&&◌, ◌||◌, List, length, Some, None, Ok, Option, Result, ◌==◌, nat_le, slice_index}
use Rattle.std.specs.Bool.{beq}
use Rattle.layouts.specs.declared.fault.LayoutFault.{LayoutFault}
use Rattle.layouts.specs.declared.fault.LayoutFault.TheVariants as fault
use Rattle.layouts.specs.declared.settings.Counter.{Counter}
use Rattle.layouts.specs.declared.settings.Counter.TheVariants.{With, Without}
use Rattle.layouts.specs.declared.settings.Settings.{Settings}
use Rattle.layouts.specs.Checks.{check, and_then}
use Rattle.layouts.specs.Members.{high_rate}
use Rattle.layouts.specs.Numbers.{number}

-- a number from a to b, both with it
abbrev pub between : ℕ → ℕ → ℕ → Bool
between a b n = nat_le a n && nat_le n b

-- the n bytes of members that stand from a version on
abbrev pub since : ℕ → ℕ → ℕ → ℕ
since first v n = cond (nat_le first v) n 0

-- the extra header, the members that always stand, and what each later version adds; one of two sampling rates
abbrev pub length_of : ℕ → Bool → ℕ
length_of v altimeter =
    20 + 180 + since 11 v 2 + since 10 v 1 + since 9 v 9 + since 8 v 1 + since 7 v 4 + since 5 v 1 + cond (high_rate v altimeter) 4 2

-- how long settings of a version are
abbrev pub settings_length : ℕ → Bool → Option ℕ
settings_length v altimeter = cond (between 1 11 v) (Some (length_of v altimeter)) None

-- the number of k bytes that begins n bytes before the body's end
abbrev pub back : List ℕ → ℕ → ℕ → ℕ
back bs n k = number bs (length bs - n) k

-- the members by which settings are judged: Version is byte 13
abbrev pub version : List ℕ → ℕ
version bs = slice_index bs 13

-- the byte that begins 30 before the end
abbrev pub head_controller_version : List ℕ → ℕ
head_controller_version bs = slice_index bs (length bs - 30)

-- the four bytes from 94 before the end on
abbrev pub hid_type : List ℕ → ℕ
hid_type bs = back bs 94 4

-- in 3 to 5 the length tells an altimeter's settings
abbrev pub altimeter_for : ℕ → ℕ → Bool
altimeter_for n v = between 3 5 v && n == length_of v true

-- in 3 to 5 HidType is 0x1007 exactly for an altimeter
abbrev pub head_agrees : ℕ → ℕ → ℕ → Bool
head_agrees n v hid = cond (between 3 5 v) (beq (hid == 0x1007) (altimeter_for n v)) true

-- the Version of n bytes that are as many as this Version says
abbrev pub version_for : ℕ → ℕ → Result ℕ LayoutFault
version_for n v =
    and_then (check (nat_le 20 n) fault.Length) (λ _.
    and_then (check (between 1 11 v) fault.Version) (λ _.
    and_then (check (n == length_of v false || n == length_of v true) fault.Length) (λ _.
    Ok v)))

-- the checks of settings in their order: length, Version, length, HeadControllerVersion, HidType
abbrev pub settings_checks : ℕ → ℕ → ℕ → ℕ → Result (Unit {0}) LayoutFault
settings_checks n v controller hid =
    and_then (version_for n v) (λ w.
    and_then (check (controller == w) (fault.HeadControllerVersion (n - 30))) (λ _.
    check (head_agrees n v hid) (fault.HidType (n - 94))))

-- the checks of a settings body
abbrev pub settings_body : List ℕ → Result (Unit {0}) LayoutFault
settings_body bs = settings_checks (length bs) (version bs) (head_controller_version bs) (hid_type bs)

-- pings have an overload counter by HidPartNumber2 and HidVersion1
abbrev pub counter_of : List ℕ → Counter
counter_of bs = cond ((back bs 100 2 == 0x1001 || back bs 100 2 == 0x1071) && nat_le 0x0220 (back bs 90 2)) With Without

-- what a sound settings body says
abbrev pub settings_of : List ℕ → Result Settings LayoutFault
settings_of bs =
    and_then (settings_body bs) (λ _. Ok (record { version = version bs; altimeter = altimeter_for (length bs) (version bs); counter = counter_of bs }))
