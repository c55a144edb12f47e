-- Fields that are set.
use Rattle.std.specs.Prelude.{◌≡◌, ℕ, zero, suc, ◌+◌, ◌-◌, ◌/◌, ◌%◌, ◌^◌, Bool, cond, ◌≢◌, List, [], ◌∷◌, ◌++◌, length, take, drop, ℤ, pos, negsuc, Some, None, Ok, Err, Option, Result, ◌==◌, nat_le, nat_lt}
use Rattle.std.specs.Int.{w16}
use Rattle.std.proofs.Common.{of_z}
use Rattle.fields.specs.declared.fault.FieldFault.{FieldFault}
use Rattle.fields.specs.declared.fault.FieldFault.TheVariants.{NoField}
use Rattle.layouts.specs.declared.letters.Letter.{Letter}
use Rattle.layouts.specs.declared.letters.Letter.TheVariants.{D, F, L, W, S, B, R}
use Rattle.layouts.specs.Located.{letters_of}
use Rattle.fields.specs.Fields.{Value, a_number, a_signed, a_run, field_in, place_of, value_of}

-- a number's k bytes, the least first
abbrev pub bytes_of : ℕ → ℕ → List ℕ
bytes_of zero n = []
bytes_of (suc k) n = n % 256 ∷ bytes_of k (n / 256)

-- a number below 256 ^ k has k bytes
abbrev pub number_bytes : ℕ → Value → Option (List ℕ)
number_bytes k (a_number n) = cond (nat_lt n (256 ^ k)) (Some (bytes_of k n)) None
number_bytes k (a_signed z) = None
number_bytes k (a_run s) = None

-- a signed number from -32768 to 32767 has two
abbrev pub narrow : ℤ → Bool
narrow (pos n) = nat_le n 32767
narrow (negsuc n) = nat_le n 32767

-- the bytes of such a number
abbrev pub signed_bytes : Value → Option (List ℕ)
signed_bytes (a_number n) = None
signed_bytes (a_signed z) = cond (narrow z) (Some (bytes_of 2 (of_z w16 z))) None
signed_bytes (a_run s) = None

-- a run has its own, as many as the member
abbrev pub run_bytes : ℕ → Value → Option (List ℕ)
run_bytes k (a_number n) = None
run_bytes k (a_signed z) = None
run_bytes k (a_run s) = cond (length s == k) (Some s) None

-- the bytes of a value in a member, where it can hold the value
abbrev pub bytes_for : Letter → Value → Option (List ℕ)
bytes_for D v = number_bytes 8 v
bytes_for F v = number_bytes 4 v
bytes_for L v = number_bytes 4 v
bytes_for W v = number_bytes 2 v
bytes_for S v = signed_bytes v
bytes_for B v = number_bytes 1 v
bytes_for (R k) v = run_bytes k v

-- new bytes at a place, all others as they were
abbrev pub set_at : List ℕ → ℕ → List ℕ → List ℕ
set_at bs at new = take at bs ++ new ++ drop (at + length new) bs

-- the answer, and the body afterwards
abbrev pub put_of : List ℕ → ℕ → Option (List ℕ) → Result (Unit {0}) FieldFault × List ℕ
put_of bs at None = (Err NoField, bs)
put_of bs at (Some new) = (Ok tt, set_at bs at new)

-- the same, once the field was looked for
abbrev pub set_in : List ℕ → Value → Result (ℕ × Letter) FieldFault → Result (Unit {0}) FieldFault × List ℕ
set_in bs v (Err e) = (Err e, bs)
set_in bs v (Ok p) = put_of bs p.0 (bytes_for p.1 v)

-- field n of a body set to a value
abbrev pub set_of : ℕ → List ℕ → ℕ → Value → Result (Unit {0}) FieldFault × List ℕ
set_of t bs n v = set_in bs v (place_of t bs n)

-- a body before and after its field n was set to v
pub record FieldSet (t n : ℕ) (v : Value) (before after : List ℕ) : Type 0 where
  pub long : length after ≡ length before
  -- of the letters that the body had, the field says v and every other field what it said
  pub again : (ls : List Letter) → letters_of t before ≡ Ok ls → field_in ls after n ≡ Some v
  pub others : (ls : List Letter) (m : ℕ) → letters_of t before ≡ Ok ls → m ≢ n → field_in ls after m ≡ field_in ls before m
  -- a fixed body keeps its letters
  pub fixed : t ≢ 15 → letters_of t after ≡ letters_of t before
  -- so do settings, but where Version, HidType or HeadControllerVersion was set: these are judged, and the body may be unsound
  pub settings : (ls : List Letter) → letters_of t before ≡ Ok ls → t ≡ 15 → n ≢ 9 → n ≢ length ls - 33 → n ≢ length ls - 21 → letters_of t after ≡ letters_of t before
  -- a body that keeps its letters is read so again
  pub read : letters_of t after ≡ letters_of t before → value_of t after n ≡ Ok v
  pub read_others : (m : ℕ) → letters_of t after ≡ letters_of t before → m ≢ n → value_of t after m ≡ value_of t before m
