use Rattle.recording.specs.Marks.{marks}
use Rattle.recording.proofs.Losses.{kept_run}
use Rattle.recording.proofs.stretches.StretchesStore.run.Goals as goal

pub returns : goal.returns
returns g c =
    kept_run (marks c.args.self.now) _ (g.S.Store.cells c.args.self.now.below) c.args.at c.unmarked.result c.run-run.result.now c.marked.ensures c.run-run.ensures c.unmarked.ensures.none
