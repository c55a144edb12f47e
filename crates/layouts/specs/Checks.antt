-- Checks that follow one another.
use Rattle.std.specs.Prelude.{Bool, cond, Ok, Err, Result}

-- a check, and its fault
abbrev pub check : {E : Type 0} → Bool → E → Result (Unit {0}) E
check b e = cond b (Ok tt) (Err e)

-- what follows once all before was passed
abbrev pub and_then : {T U E : Type 0} → Result T E → (T → Result U E) → Result U E
and_then (Ok x) f = f x
and_then (Err e) f = Err e

-- of what was read, only that it is sound
abbrev pub sound : {T E : Type 0} → Result T E → Result (Unit {0}) E
sound (Ok x) = Ok tt
sound (Err e) = Err e
