use Rattle.std.proofs.Common.{sym, ◌∙◌, subst, arith}
use Rattle.std.proofs.lemmas.List.{with_items_is}
use Rattle.listing.specs.Progress.{at}
use Rattle.lister.specs.Listed.{Ends}
use Rattle.lister.proofs.ToTheEnd.{cut}
use Rattle.lister.proofs.list_store.Goals as goal

pub returns : goal.returns
returns g c =
    let e = c.read_whole-counts.ensures in
    let n = c.read_whole-counts.result in
    let after = c.read_whole-counts.new.table in
    let whole = subst (λ t. Ends (g.K.RecordKind.stands c.args.kind) (g.S.Store.cells c.args.store) (at n.place n.skipped n.rows t)) (sym (with_items_is c.in_ok-table.table after (c.read_whole-counts.auto.table ∙ c.deref_mut.ensures.len))) e in
    let both = cut n.place n.skipped n.rows _ _ c.truncate.ensures.items whole in
    (omega arith, both.0, both.1)
