-- The rows that an index along the listing holds, and what the calls that name a row answer.
use Rattle.std.proofs.Common.{◌≡◌, ℕ, zero, suc, ◌+◌, ◌*◌, ◌<◌, ◌≤◌, min, Bool, true, false, cond, ◌&&◌, ltb, leb, List, ◌++◌, length, take, drop, Some, Ok, Err, sym, refl, ap, ◌∙◌, arith, length-take}
use Rattle.std.specs.List.{AllByRecursion}
use Rattle.std.specs.Option.{ok_or}
use Rattle.std.proofs.lemmas.Bool.{lt-ltb, le-leb, lt-leb, eq-eqb, and_from}
use Rattle.std.proofs.ByRecursion.{All-get_or}
use Rattle.std.proofs.lemmas.List.{take-take}
use Rattle.recording.specs.declared.Cell.{Cell}
use Rattle.records.specs.declared.kind.Record.{Record}
use Rattle.records.specs.Records.{Meaning, Laws}
use Rattle.indexfile.specs.declared.row.Row.{Row}
use Rattle.indexfile.specs.declared.refusal.WriteRefusal.TheVariants as write
use Rattle.indexfile.specs.Written.{no_row}
use Rattle.indexfile.specs.Files.{lengths, in_order, sound_rows, file_of, writing}
use Rattle.listing.specs.declared.answer.SettleRefusal.TheVariants as settle
use Rattle.listing.specs.declared.answer.SaveRefusal.TheVariants as save
use Rattle.listing.specs.Listing.{row_at, listing, ahead, EndsBy, Standing, Along}
use Rattle.listing.specs.Progress.{Progress, held}
use Rattle.listing.specs.Fetching.{standing, row_of, filled, fetching}
use Rattle.listing.specs.Settling.{settled, settling}
use Rattle.listing.specs.Saving.{saved, saving}
use Rattle.listing.specs.Promise.{listed, earlier, Holds, Lacks}
use Rattle.listing.proofs.Lists.{Lists, at_end, at_cell, at_record, lists_from}
use Rattle.listing.proofs.Table.{rows_made, rows_ordered}
use Rattle.listing.proofs.Moved.{earlier_rows}
use Rattle.std.proofs.lemmas.Grind.{common_steps}

-- an index along the listing, whose rows held are the listing's first
pub record Faithful (m : Meaning) (cs : List Cell) (s : Progress) : Type 0 where
  pub along : Along m cs s.place s.skipped s.rows
  pub same : take s.rows s.table ≡ take s.rows (listing m cs)
  pub room : s.rows ≤ min (length s.table) 65536

standing_row : (p : ℕ) (x : Record) → standing (Some x) (row_at p x) ≡ true
standing_row p x = grind (arith, common_steps)

-- rows of the listing that end by the place q
rows_in_order : {M : ℕ} {m : Meaning} → Laws M m → {cs : List Cell} {p : ℕ} {rows : List Row} → Lists m cs p rows → (q n e : ℕ) → e ≤ p → AllByRecursion (EndsBy q) (take n rows) → in_order q e (take n rows) ≡ true
rows_in_order laws (at_end h) q zero e l a = refl
rows_in_order laws (at_end h) q (suc n) e l a = refl
rows_in_order laws (at_cell h s r) q n e l a = rows_in_order laws r q n e (omega arith) a
rows_in_order laws (at_record x s r) q zero e l a = refl
rows_in_order laws {cs} (at_record {p} {rows} x s r) q (suc n) e l a =
    and_from (ltb 0 x.length) _ (lt-ltb 0 x.length (laws.inside cs p x s).0)
    (and_from (leb e p) _ (le-leb e p l)
    (and_from (leb (p + x.length) q) _ (le-leb (p + x.length) q a.0) (rows_in_order laws r q n (p + x.length) (omega arith) a.1)))

saved_cond : (t : Bool) (n : ℕ) (out buffer : List ℕ) → saved (cond t (Ok n, out) (Err write.ShortBuffer, buffer)) ≡ cond t (Ok n, out) (Err (save.Unwritten write.ShortBuffer), buffer)
saved_cond true n out buffer = refl
saved_cond false n out buffer = refl

module _ {M : ℕ} {m : Meaning} (laws : Laws M m) (cs : List Cell) (s : Progress) (f : Faithful m cs s) where
  -- no call finds the table too short
  pub roomy : ltb (length s.table) s.rows ≡ false
  roomy = grind (arith, common_steps)

  module _ (n : ℕ) (h : n < s.rows) where
    row_is : row_of s n ≡ listed m cs n
    row_is = grind (arith, common_steps)

    pub row_made : Standing m cs (row_of s n)
    row_made = rw row_is (All-get_or (Standing m cs) (listing m cs) n no_row (omega (arith, f.along.found)) (rows_made (lists_from laws cs 0)))

    before : take n s.table ≡ earlier m cs n
    before =
        let l : n ≤ s.rows = omega arith in
        let k : n < length (listing m cs) = omega (arith, f.along.found) in
        sym (take-take n s.rows s.table l) ∙ ap (take n) f.same ∙ take-take n s.rows (listing m cs) l ∙ earlier_rows (listing m cs) (rows_ordered laws (lists_from laws cs 0)) n k

    pub rows_before : take n s.table ≡ ahead (row_of s n).place (listing m cs)
    rows_before = before ∙ sym (ap (λ z. ahead z.place (listing m cs)) row_is)

    row_stands : standing (m cs (row_of s n).place) (row_of s n) ≡ true
    row_stands = grind (arith, common_steps, row_made, standing_row)

    pub settle_held : settling m cs n s ≡ ok_or (settled m cs (take n s.table) (row_of s n)) settle.NoSettings
    settle_held = rw (roomy, lt-leb s.rows n h, row_stands)

    pub fetch_held : (buffer : List ℕ) → fetching m cs n buffer s ≡ filled cs (row_of s n) buffer
    fetch_held buffer = rw (roomy, lt-leb s.rows n h, row_stands)

    pub holds : Holds m cs s n
    holds = grind (arith, common_steps, fetch_held, row_is, settle_held, before)

  pub lacks : (n : ℕ) → s.rows ≤ n → Lacks m cs s n
  lacks n h = grind (arith, common_steps)

  -- the rows held make a sound file
  sound : sound_rows s.place s.skipped (take s.rows (listing m cs)) ≡ true
  sound = and_from (in_order s.place 0 (take s.rows (listing m cs))) _ (rows_in_order laws (lists_from laws cs 0) s.place s.rows 0 (omega arith) f.along.closed) (eq-eqb s.place (s.skipped + lengths (take s.rows (listing m cs))) (sym f.along.sum))

  -- they are as many as are held, and no more than a file may have
  pub saves : (buffer : List ℕ) → saving buffer s
      ≡ cond (leb (16 + 20 * s.rows) (length buffer)) (Ok (16 + 20 * s.rows), file_of s.place s.skipped (ahead s.place (listing m cs)) ++ drop (16 + 20 * s.rows) buffer)
      (Err (save.Unwritten write.ShortBuffer), buffer)
  saves buffer = rw roomy (ap saved written ∙ saved_cond (leb (16 + 20 * s.rows) (length buffer)) _ _ buffer)
    where
      long : length (held s) ≡ s.rows
      long = length-take s.rows s.table ∙ omega (arith, f.room)

      few : leb (length (held s)) 65536 ≡ true
      few = le-leb (length (held s)) 65536 (omega (arith, long, f.room))

      tests : (leb (length (held s)) 65536 && sound_rows s.place s.skipped (held s)) ≡ true
      tests = and_from (leb (length (held s)) 65536) _ few (ap (sound_rows s.place s.skipped) f.same ∙ sound)

      written : writing s.place s.skipped (held s) buffer ≡ cond (leb (16 + 20 * s.rows) (length buffer)) (Ok (16 + 20 * s.rows), file_of s.place s.skipped (ahead s.place (listing m cs)) ++ drop (16 + 20 * s.rows) buffer) (Err write.ShortBuffer, buffer)
      written = ap (λ t. cond t (cond (leb (16 + 20 * length (held s)) (length buffer)) (Ok (16 + 20 * length (held s)), file_of s.place s.skipped (held s) ++ drop (16 + 20 * length (held s)) buffer) (Err write.ShortBuffer, buffer)) (Err write.UnsoundRows, buffer)) tests
          ∙ (λ i. cond (leb (16 + 20 * long i) (length buffer)) (Ok (16 + 20 * long i), file_of s.place s.skipped ((f.same ∙ f.along.passed) i) ++ drop (16 + 20 * long i) buffer) (Err write.ShortBuffer, buffer))
