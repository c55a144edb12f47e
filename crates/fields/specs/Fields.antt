-- Fields of fixed bodies and of settings.
use Rattle.std.specs.Prelude.{ℕ, List, ℤ, Option, Result}
use Rattle.std.specs.Int.{w16}
use Rattle.std.proofs.Common.{to_z}
use Rattle.std.specs.Option.{ok_or}
use Rattle.std.specs.Option as options
use Rattle.std.specs.Result.{result_map_both}
use Rattle.fields.specs.declared.fault.FieldFault.{FieldFault}
use Rattle.fields.specs.declared.fault.FieldFault.TheVariants.{Body, NoField}
use Rattle.fields.specs.declared.read.Field.{Field}
use Rattle.fields.specs.declared.read.Field.TheVariants as field
use Rattle.layouts.specs.declared.letters.Letter.{Letter}
use Rattle.layouts.specs.declared.letters.Letter.TheVariants.{D, F, L, W, S, B, R}
use Rattle.layouts.specs.Checks.{and_then}
use Rattle.layouts.specs.Letters.{size, field_of}
use Rattle.layouts.specs.Located.{located_in}
use Rattle.layouts.specs.Numbers.{little, part}

-- what a field says, whoever holds its bytes
pub data Value : Type 0 where
  a_number : ℕ → Value
  a_signed : ℤ → Value
  a_run : List ℕ → Value

-- what a field in code says
abbrev pub means : Field → Value
means (field.Number n) = a_number n
means (field.Signed z) = a_signed z
means (field.Run s) = a_run s.now

-- what a member says by its bytes; floating numbers are answered as their bits
abbrev pub says : Letter → List ℕ → Value
says D bs = a_number (little bs)
says F bs = a_number (little bs)
says L bs = a_number (little bs)
says W bs = a_number (little bs)
says S bs = a_signed (to_z w16 (little bs))
says B bs = a_number (little bs)
says (R n) bs = a_run bs

-- what the member at a place says
abbrev pub value_at : List ℕ → ℕ × Letter → Value
value_at bs p = says p.1 (part bs p.0 (size p.1))

-- field n of these letters
abbrev pub field_in : List Letter → List ℕ → ℕ → Option Value
field_in ls bs n = options.option_map (value_at bs) (field_of ls n)

-- where a field of a body is: first the body is judged, then the field looked for
abbrev pub place_of : ℕ → List ℕ → ℕ → Result (ℕ × Letter) FieldFault
place_of t bs n = and_then (result_map_both (λ o. o) Body (located_in t bs n)) (λ o. ok_or o NoField)

-- what a field of a body says
abbrev pub value_of : ℕ → List ℕ → ℕ → Result Value FieldFault
value_of t bs n = result_map_both (value_at bs) (λ e. e) (place_of t bs n)
