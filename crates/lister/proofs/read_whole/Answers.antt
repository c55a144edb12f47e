use Rattle.std.proofs.Common.{sym, ap, subst}
use Rattle.indexfile.specs.declared.counts.Counts.{Counts}
use Rattle.listing.specs.Progress.{at}
use Rattle.index.specs.Indexes.{progress}
use Rattle.lister.specs.Listed.{Ends}
use Rattle.lister.proofs.ToTheEnd.{reads_all}
use Rattle.lister.proofs.read_whole.Goals as goal

pub returns : goal.returns
returns g c =
    let cs = g.S.Store.cells c.args.store in
    let o = c.open-index.ensures in
    let all =
    reads_all (g.K.RecordKind.laws c.open-index.result.kind) _ cs c.args.table.now _ _ _ o.promise c.requires.0 c.requires.1
    (ap g.S.Store.cells o.owns.0) c.new.ensures (o.new c.args.table.now) c.run.ensures.ran.moved in
    let here = subst (λ k. Ends (g.K.RecordKind.stands k) cs (progress c.run.new.self c.run.new.table)) o.owns.1 all in
    subst (Ends (g.K.RecordKind.stands c.args.kind) cs) (ap (λ (n : Counts). at n.place n.skipped n.rows c.run.new.table) (sym c.counts.ensures)) here
