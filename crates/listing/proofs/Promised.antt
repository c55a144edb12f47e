-- Every lawful record kind keeps the promise.
use Rattle.std.proofs.Common.{ℕ, List, sym, subst}
use mathlib.Core.Path.{fun_ext}
use Rattle.recording.specs.declared.Cell.{Cell}
use Rattle.records.specs.Records.{Meaning, Laws}
use Rattle.listing.specs.Listing.{Chooses}
use Rattle.listing.specs.Promise.{Promise}
use Rattle.listing.proofs.Boundaries.{resynchronised}
use Rattle.listing.proofs.Nearby.{both_clear}
use Rattle.listing.proofs.Chosen.{listing_chooses, listing_chosen}
use Rattle.listing.proofs.Table.{listing_is}
use Rattle.listing.specs.Visits.{visited, unused}
use Rattle.listing.proofs.Walks.{used, faithful_after}
use Rattle.listing.proofs.Alike.{alike}

pub promised : {M : ℕ} {m : Meaning} → Laws M m → (cs : List Cell) → Promise M m cs
promised {M} {m} laws cs = record {
  used = used laws cs;
  same_rows = λ ds b c k l same. resynchronised laws cs ds b c k l same;
  alike = λ ds b c k l same table other vs ws n i d hn hi e f behind.
      alike laws cs ds b c k l same (visited m cs vs (unused table)) (visited m ds ws (unused other)) (faithful_after laws cs table vs) (faithful_after laws ds other ws) n i d hn hi e f behind;
  both_clear = λ ds b c h i same near. both_clear laws cs ds b c h i same near;
  chosen = λ member. (listing_chosen laws cs member, λ e. subst (Chooses m cs) (sym (fun_ext e)) (listing_chooses laws cs));
  only = λ rows. listing_is laws cs rows;
}
