use Rattle.std.proofs.Common.{Err, sym, ap, ◌∙◌, arith}
use Rattle.std.proofs.lemmas.List.{at_drop_all}
use Rattle.std.proofs.lemmas.Result.{err_from_is_err_and}
use Rattle.recording.specs.Pieces.{first_bad}
use Rattle.recording.proofs.Checks.{bad_here, checked}
use Rattle.recording.proofs.extents.Extents.check.Goals as goal

pub returns-in_err-judge : goal.returns-in_err-judge
returns-in_err-judge c =
    let rows = c.args.self.now.rows.now in
    let p = err_from_is_err_and c.from_residual.result c.from_residual.ensures.1 in
    let e = p.1 ∙ bad_here rows c.loop-i.i p.0 (omega arith) (ap Err p.2 ∙ sym c.in_err-judge.was ∙ c.judge.ensures) ∙ c.loop-i.invariant in
    record { is = e; says = checked c.args.self.now.image.now rows _ e }

pub returns : goal.returns
returns c =
    let rows = c.args.self.now.rows.now in
    let e = sym (at_drop_all (first_bad c.loop-i.i) rows c.loop-i.i (omega arith)) ∙ c.loop-i.invariant in
    record { is = e; says = checked c.args.self.now.image.now rows _ e }
