-- What refusals tell.
use Rattle.std.specs.Prelude.{ℕ, List, ◌++◌, codes, decimal}
use Rattle.refusals.specs.declared.Notice.{Notice}

-- a refusal about a place
abbrev pub notice : ℕ → ℕ → Notice
notice n at = record { number = n; place = at }

-- a refusal that concerns no place in particular
abbrev pub nowhere : ℕ → Notice
nowhere n = notice n 0

-- the number and the place, as text
abbrev pub notice_text : Notice → List ℕ
notice_text n = decimal n.number ++ (codes " " ++ decimal n.place)
