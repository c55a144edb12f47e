use Rattle.std.proofs.Common.{ap, ◌∙◌}
use Rattle.recording.specs.Marks.{without}
use Rattle.recording.proofs.Losses.{none_lost}
use Rattle.recording.proofs.stretches.Stretches.new.Goals as goal

pub returns-clause-cells : goal.returns-clause-cells
returns-clause-cells g c = ap (λ ss. without ss (g.S.Store.cells c.args.below)) c.new.ensures ∙ none_lost 0 (g.S.Store.cells c.args.below)
