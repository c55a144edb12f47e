-- What the faults of bodies and tuples tell.
use Rattle.std.specs.Prelude.{ℕ, Ok, Err, Result}
use Rattle.refusals.specs.declared.Notice.{Notice}
use Rattle.refusals.specs.Notices.{notice, nowhere}
use Rattle.layouts.specs.Faults.{layout_fault}
use Rattle.packets.specs.Faults.{packet_fault}
use Rattle.bodies.specs.declared.fault.UserFault.{UserFault}
use Rattle.bodies.specs.declared.fault.UserFault.TheVariants as user
use Rattle.bodies.specs.declared.fault.BodyFault.{BodyFault}
use Rattle.bodies.specs.declared.fault.BodyFault.TheVariants as body
use Rattle.bodies.specs.declared.fault.Wrong.{Wrong}
use Rattle.bodies.specs.declared.fault.Wrong.TheVariants as wrong
use Rattle.bodies.specs.declared.fault.TupleFault.{TupleFault}

-- 10: a zero byte missing, or a wrong letter
abbrev pub user_fault : UserFault → Notice
user_fault (user.NoZero at) = notice 10 at
user_fault (user.Letter at) = notice 10 at

-- a body's fault tells what it is made of
abbrev pub body_fault : BodyFault → Notice
body_fault (body.Members f) = layout_fault f
body_fault (body.Packets f) = packet_fault f
body_fault (body.User f) = user_fault f

-- 22: no settings
abbrev pub wrong_in : Wrong → Notice
wrong_in (wrong.Body f) = body_fault f
wrong_in wrong.NoSettings = nowhere 22

-- a tuple's fault tells what is wrong with it
abbrev pub tuple_fault : TupleFault → Notice
tuple_fault f = wrong_in f.wrong

-- a tuple's fault: its type, and what is wrong
abbrev pub tuple_fault_of : ℕ × Wrong → TupleFault
tuple_fault_of x = record { data_type = x.0; wrong = x.1 }

-- a value beside an error
abbrev pub beside : {K T E : Type 0} → K → Result T E → Result T (K × E)
beside k (Ok x) = Ok x
beside k (Err e) = Err (k, e)
