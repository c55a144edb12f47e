-- What the faults of fields tell.
use Rattle.refusals.specs.declared.Notice.{Notice}
use Rattle.refusals.specs.Notices.{nowhere}
use Rattle.layouts.specs.Faults.{layout_fault}
use Rattle.fields.specs.declared.fault.FieldFault.{FieldFault}
use Rattle.fields.specs.declared.fault.FieldFault.TheVariants as field

-- what the body's fault tells; 13: no such field, or not a value of it
abbrev pub field_fault : FieldFault → Notice
field_fault (field.Body f) = layout_fault f
field_fault field.NoField = nowhere 13
