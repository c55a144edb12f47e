-- What the refusals of an index tell.
use Rattle.std.specs.Prelude.{ℕ}
use Rattle.refusals.specs.declared.Notice.{Notice}
use Rattle.refusals.specs.Notices.{nowhere}
use Rattle.listing.specs.declared.answer.ScanRefusal.{ScanRefusal}
use Rattle.listing.specs.declared.answer.ScanRefusal.TheVariants as scan
use Rattle.listing.specs.declared.answer.ClearRefusal.{ClearRefusal}
use Rattle.listing.specs.declared.answer.ClearRefusal.TheVariants as clear
use Rattle.listing.specs.declared.answer.FetchRefusal.{FetchRefusal}
use Rattle.listing.specs.declared.answer.FetchRefusal.TheVariants as fetch
use Rattle.listing.specs.declared.answer.SettleRefusal.{SettleRefusal}
use Rattle.listing.specs.declared.answer.SettleRefusal.TheVariants as settle
use Rattle.listing.specs.declared.answer.SaveRefusal.{SaveRefusal}
use Rattle.listing.specs.declared.answer.SaveRefusal.TheVariants as save
use Rattle.listing.specs.declared.answer.Finding.{Finding}
use Rattle.bodies.specs.declared.fault.TupleFault.{TupleFault}
use Rattle.bodies.specs.Faults.{tuple_fault}
use Rattle.indexfile.specs.declared.refusal.WriteRefusal.{WriteRefusal}
use Rattle.indexfile.specs.Refusals.{write_refusal}

-- 25: the table is shorter than the rows held; 1: the budget is not 1 to 65,536
abbrev pub scan_refusal : ScanRefusal → Notice
scan_refusal scan.ShortTable = nowhere 25
scan_refusal scan.WrongBudget = nowhere 1

-- 25: the table is shorter than the rows held; 2: the boundary is past the end
abbrev pub clear_refusal : ClearRefusal → Notice
clear_refusal clear.ShortTable = nowhere 25
clear_refusal clear.PastEnd = nowhere 2

-- 25: the table is shorter than the rows held, or the row is not its standing record; 21: the row is not held; 4: the buffer is too short
abbrev pub fetch_refusal : FetchRefusal → Notice
fetch_refusal fetch.ShortTable = nowhere 25
fetch_refusal fetch.RowNotHeld = nowhere 21
fetch_refusal fetch.RowNotStanding = nowhere 25
fetch_refusal fetch.ShortBuffer = nowhere 4

-- as for a fetch, but 22: no settings govern the tuple
abbrev pub settle_refusal : SettleRefusal → Notice
settle_refusal settle.ShortTable = nowhere 25
settle_refusal settle.RowNotHeld = nowhere 21
settle_refusal settle.RowNotStanding = nowhere 25
settle_refusal settle.NoSettings = nowhere 22

-- 25: the table is shorter than the rows held; else what the file's writing tells
abbrev pub save_refusal : SaveRefusal → Notice
save_refusal save.ShortTable = nowhere 25
save_refusal (save.Unwritten f) = write_refusal f

abbrev pub unwritten : WriteRefusal → SaveRefusal
unwritten f = save.Unwritten f

-- a finding is told as the fault inside it
abbrev pub finding_told : Finding → Notice
finding_told f = tuple_fault f.fault

abbrev pub finding : ℕ × TupleFault → Finding
finding x = record { row = x.0; fault = x.1 }
