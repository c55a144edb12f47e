-- One scan of a short recording, with a row for each cell, comes to the end.
use Rattle.std.proofs.lemmas.List.{take-take}
use Rattle.std.proofs.Common.{◌≡◌, ℕ, ◌+◌, ◌≤◌, List, [], ◌∷◌, ◌++◌, length, take, drop, sym, refl, ap, ◌∙◌, subst, append-nil, arith, take-append-drop}
use Rattle.recording.specs.declared.Cell.{Cell}
use Rattle.records.specs.Records.{Meaning, Laws}
use Rattle.indexfile.specs.declared.row.Row.{Row}
use Rattle.listing.specs.declared.answer.Call.TheVariants as call
use Rattle.listing.specs.declared.answer.Stop.{Stop}
use Rattle.listing.specs.declared.answer.Stop.TheVariants.{Ended, Spent, Full}
use Rattle.listing.specs.declared.answer.Scanned.{Scanned}
use Rattle.listing.specs.Listing.{listing}
use Rattle.indexfile.specs.Files.{lengths}
use Rattle.listing.specs.Progress.{Progress, at, held}
use Rattle.listing.specs.Scanning.{scanning}
use Rattle.listing.specs.Visits.{visited, unused}
use Rattle.listing.specs.Promise.{Why, extra, Goes, Used, Promise}
use Rattle.listing.specs.declared.answer.Visit.{Visit}
use Rattle.listing.specs.Visits.{unmade}
use Rattle.lister.specs.Listed.{Ends}
use Rattle.listing.proofs.Lists.{turn_end}

module _ {M : ℕ} {m : Meaning} (laws : Laws M m) (cs : List Cell) (promise : Promise M m cs) (table : List Row) (short : length cs ≤ 32768) (size : length table ≡ length cs) where
  abbrev after : Progress
  after = (scanning m cs 65536 (unused table)).1

  used : Used m cs table after
  used = promise.used table (unmade (call.Scan 65536) ∷ [])

  at_end : (a : Scanned) → Goes m cs 65536 (unused table) a after → after.place ≡ length cs → Ends m cs after
  at_end a g e = record { rows = rows; place = e; sum = used.sum ∙ ap (λ z. after.skipped + lengths z) rows }
    where
      none : drop after.rows (listing m cs) ≡ []
      none = g.along.rest ∙ turn_end m cs (length cs) after.place (omega arith)

      rows : held after ≡ listing m cs
      rows = used.rows ∙ sym g.along.passed ∙ sym (append-nil (take after.rows (listing m cs))) ∙ ap (λ z. take after.rows (listing m cs) ++ z) (sym none) ∙ take-append-drop after.rows (listing m cs)

  -- it does not stop before
  by : (a : Scanned) → Goes m cs 65536 (unused table) a after → (t : Stop) → a.stop ≡ t → Why m cs 65536 a.tests after t → Ends m cs after
  by a g Ended e w = at_end a g w
  by a g Spent e w = let none = ap extra e in absurd (omega (arith, w.1, g.tests, g.rows, used.few, used.within))
  by a g Full e w = let h = laws.inside cs after.place w.1.0 w.1.1 in absurd (omega (arith, w.0, used.few, used.size))

  pub ends : Ends m cs after
  ends = let (a, e, g) = (promise.used table []).scans 65536 (omega arith) (omega arith) in by a g a.stop refl g.why

-- the same, told by what the code did
pub reads_all : {M : ℕ} {m : Meaning} → Laws M m → (cs ds : List Cell) (table : List Row) (v : Visit) (s t : Progress) → Promise M m cs → length ds ≤ 32768 → length table ≡ length ds
    → cs ≡ ds → v ≡ unmade (call.Scan 65536) → s ≡ unused table → t ≡ visited m cs (v ∷ []) s → Ends m ds t
reads_all {m = m} laws cs ds table v s t promise short size ecs ev es left =
    let n : length cs ≡ length ds = ap length ecs in
    let here : t ≡ (scanning m cs 65536 (unused table)).1 = left ∙ (λ j. visited m cs (ev j ∷ []) (es j)) in
    let there : Ends m cs t = subst (Ends m cs) (sym here) (ends laws cs promise table (omega arith) (omega arith)) in
    subst (λ z. Ends m z t) ecs there

-- the rows held, and no more of the table
pub cut : {m : Meaning} {cs : List Cell} (p s r : ℕ) (t u : List Row) → u ≡ take r t → Ends m cs (at p s r t) → Ends m cs (at p s r u) × (u ≡ listing m cs)
cut p s r t u e x = (record { rows = ap (take r) e ∙ take-take r r t (omega arith) ∙ x.rows; place = x.place; sum = x.sum }, e ∙ x.rows)
