use Rattle.std.proofs.Common.{◌-◌, take, arith}
use Rattle.index.proofs.Vacancies.{stand_within, stand_less}
use Rattle.index.proofs.Index.vacant.Goals as goal

pub returns-clause-within : goal.returns-clause-within
returns-clause-within g c =
    let cs = g.S.Store.cells c.args.self.now.store in
    let n = c.min-near.result - 0 in
    stand_within cs c.args.at (take n c.run-run.result.now) (stand_less cs c.args.at c.run-run.result.now n c.run-run.ensures) c.min.result (omega (arith, c.vacant.ensures.within))
