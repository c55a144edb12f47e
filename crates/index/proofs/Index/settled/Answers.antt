use Rattle.std.proofs.Common.{Bool, cond, Some, ap, ◌∙◌, sym, arith, rules}
use Rattle.std.specs.Option.{option_map}
use Rattle.layouts.specs.declared.settings.Counter.TheVariants.{Without}
use Rattle.listing.proofs.Settles.{By}
use Rattle.index.proofs.Backwards.{found}
use Rattle.index.proofs.Index.settled.Goals as goal

pub returns : goal.returns
returns g c =
    let m = g.K.RecordKind.stands c.args.self.now.kind in
    let cs = g.S.Store.cells c.args.self.now.store in
    let y = c.args.y in
    let run = c.find_map.ensures.runs in
    let p = run.0 in
    let from = c.rev.ensures.runs p p.seen run.1 in
    let q = from.0 in
    let rows = c.iter.ensures.runs_back q q.seen in
    let same = ap (λ z. z.rest.now) from.1 ∙ c.iter.ensures.rest in
    found m cs y (λ x. x.now) q.from.rest.now p.len p.whole p.at (omega (arith, rows.0, from.2.0.0)) (λ w. sym from.2.0.0 ∙ rows.1 (from.2.1 ∙ w))
    (λ k d h l. sym (ap (option_map (λ x. x.now)) (from.2.0.2 _)) ∙ rows.2 k d h (omega (arith, from.2.0.0)))
    (λ a r f e. search rules) (λ x e. search rules) (λ o x e. search rules) c.find_map.result run.2
    ∙ ap (λ z. By m cs z y) same
    ∙ ap (λ (t : Bool). cond t (By m cs c.args.earlier.now y) (Some Without)) c.if-not-needs_settings.ensures
