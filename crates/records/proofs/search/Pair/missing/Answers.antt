use Rattle.std.proofs.Common.{◌≡◌, ◌+◌, ◌*◌, sym, ◌∙◌, subst, arith}
use Rattle.records.specs.Searching.{Unlike}
use Rattle.records.proofs.Searches.{none_found, first_found}
use Rattle.records.proofs.search.Pair.missing.Goals as goal

pub returns-then-found-ne0 : goal.returns-then-found-ne0
returns-then-found-ne0 c =
    first_found c.args.self.now c.args.run.now (c.loop-block.block * 32) (omega arith) c.found-found.result c.found-found.ensures c.if-found-ne0.true c.loop-block.invariant

pub loop-block-preserved : goal.loop-block-preserved
loop-block-preserved c =
    let next : c.loop-block.block * 32 + 32 ≡ (c.loop-block.block + 1) * 32 = omega arith in
    subst (Unlike c.args.self.now c.args.run.now) next (none_found c.args.self.now c.args.run.now (c.loop-block.block * 32) (omega arith) (sym c.found-found.ensures ∙ c.if-found-ne0.false) c.loop-block.invariant)
