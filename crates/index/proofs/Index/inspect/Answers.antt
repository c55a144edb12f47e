use Rattle.index.specs.Indexes.{progress}
use Rattle.index.proofs.Inspects.{finds, is_sound}
use Rattle.index.proofs.Index.inspect.Goals as goal

pub returns-in_default-judge_row : goal.returns-in_default-judge_row
returns-in_default-judge_row g c =
    is_sound (g.K.RecordKind.laws c.args.self.now.kind) (g.S.Store.cells c.args.self.now.store) c.args.row c.args.buffer.now (progress c.args.self.now c.args.table.now) _ _
    c.in_ok-length.ensures _ c.in-Some.ensures _ c.body_in.ensures _ c.in_default-judge_row.ensures

pub returns : goal.returns
returns g c =
    finds (g.K.RecordKind.laws c.args.self.now.kind) (g.S.Store.cells c.args.self.now.store) c.args.row c.args.buffer.now (progress c.args.self.now c.args.table.now) _ _
    c.in_ok-length.ensures _ c.in-Some.ensures _ c.body_in.ensures _ c.in-Err.ensures
