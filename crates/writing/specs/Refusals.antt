-- What the refusals of writing tell.
use Rattle.refusals.specs.declared.Notice.{Notice}
use Rattle.refusals.specs.Notices.{nowhere}
use Rattle.writing.specs.declared.refusal.PutRefusal.{PutRefusal}
use Rattle.writing.specs.declared.refusal.PutRefusal.TheVariants.{LongBody, Full}
use Rattle.writing.specs.declared.refusal.NotOneTuple.{NotOneTuple}

-- 3: the body is too long; 24: the output is full
abbrev pub put_refusal : PutRefusal → Notice
put_refusal LongBody = nowhere 3
put_refusal Full = nowhere 24

-- 15: the bytes are not exactly one tuple
abbrev pub not_one_tuple : NotOneTuple → Notice
not_one_tuple e = nowhere 15
