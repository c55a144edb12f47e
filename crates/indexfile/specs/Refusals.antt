-- What the refusals of index files tell.
use Rattle.refusals.specs.declared.Notice.{Notice}
use Rattle.refusals.specs.Notices.{nowhere}
use Rattle.indexfile.specs.declared.refusal.WriteRefusal.{WriteRefusal}
use Rattle.indexfile.specs.declared.refusal.WriteRefusal.TheVariants as write
use Rattle.indexfile.specs.declared.refusal.ReadRefusal.{ReadRefusal}
use Rattle.indexfile.specs.declared.refusal.ReadRefusal.TheVariants as read

-- 25: the rows are unsound; 4: the buffer is shorter than the file
abbrev pub write_refusal : WriteRefusal → Notice
write_refusal write.UnsoundRows = nowhere 25
write_refusal write.ShortBuffer = nowhere 4

-- 12: the file is unsound; 21: the row is not held
abbrev pub read_refusal : ReadRefusal → Notice
read_refusal read.Unsound = nowhere 12
read_refusal read.RowNotHeld = nowhere 21
