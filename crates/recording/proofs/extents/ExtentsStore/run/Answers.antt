use Rattle.std.proofs.Common.{take}
use Rattle.recording.proofs.Rows.{located_run}
use Rattle.recording.proofs.extents.ExtentsStore.run.Goals as goal

pub returns-in-Some : goal.returns-in-Some
returns-in-Some c =
    located_run c.args.self.now.image.now (take 64 c.args.self.now.rows.now) c.args.at c.in-Some.row c.in-Some.skip c.adds.result c.part.result.now c.in-Some.ensures c.adds.ensures c.part.ensures
