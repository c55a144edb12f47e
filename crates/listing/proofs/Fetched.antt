-- What a fetch that is not refused leaves in the buffer.
use Rattle.std.proofs.Common.{◌≡◌, ℕ, ◌-◌, Bool, true, false, cond, ltb, List, ◌++◌, length, get_or, take, drop, Ok, Err, Result, refl, ap, ◌∙◌, arith, length-drop, length-take}
use lib.ListN.{length-map}
use Rattle.recording.specs.declared.Cell.{Cell}
use Rattle.indexfile.specs.declared.row.Row.{Row}
use Rattle.listing.specs.declared.answer.FetchRefusal.{FetchRefusal}
use Rattle.listing.specs.declared.answer.FetchRefusal.TheVariants.{ShortTable, RowNotHeld, RowNotStanding, ShortBuffer}
use Rattle.records.specs.Records.{Meaning, Laws}
use Rattle.listing.specs.Progress.{Progress}
use Rattle.indexfile.specs.Written.{no_row}
use Rattle.listing.specs.Fetching.{bytes_at, standing, fetching}
use Rattle.listing.specs.Settling.{body}
use Rattle.listing.proofs.Inside.{row_inside}
use Rattle.std.proofs.lemmas.Grind.{common_steps}

-- the four tests of a fetch
abbrev answers : (n : ℕ) (out buffer : List ℕ) → (a b c d : Bool) → Result ℕ FetchRefusal × List ℕ
answers n out buffer a b c d = cond a (Err ShortTable, buffer) (cond b (Err RowNotHeld, buffer) (cond c (cond d (Err ShortBuffer, buffer) (Ok n, out)) (Err RowNotStanding, buffer)))

welcome : (k n : ℕ) (out buffer : List ℕ) (a b c d : Bool) → Ok k ≡ (answers n out buffer a b c d).0 → (c ≡ true) × (d ≡ false) × (k ≡ n) × ((answers n out buffer a b c d).1 ≡ out)
welcome k n out buffer true b c d e = let z : ◌≡◌ {A = ℕ} 0 1 = cc in absurd (omega arith)
welcome k n out buffer false true c d e = let z : ◌≡◌ {A = ℕ} 0 1 = cc in absurd (omega arith)
welcome k n out buffer false false false d e = let z : ◌≡◌ {A = ℕ} 0 1 = cc in absurd (omega arith)
welcome k n out buffer false false true true e = let z : ◌≡◌ {A = ℕ} 0 1 = cc in absurd (omega arith)
welcome k n out buffer false false true false e = (refl, refl, (cc), refl)

front_body : (xs rest : List ℕ) (n : ℕ) → length xs ≡ n → take (n - 16) (drop 14 (xs ++ rest)) ≡ take (n - 16) (drop 14 xs)
front_body xs rest n e = grind (arith, common_steps)

module _ {M : ℕ} {m : Meaning} (laws : Laws M m) (cs : List Cell) (i : ℕ) (buffer : List ℕ) (s : Progress) (n : ℕ) (e : Ok n ≡ (fetching m cs i buffer s).0) where
  abbrev y : Row
  y = get_or s.table i no_row

  abbrev Facts : Type 0
  Facts = (standing (m cs y.place) y ≡ true) × (ltb (length buffer) y.length ≡ false) × (n ≡ y.length) × ((fetching m cs i buffer s).1 ≡ bytes_at cs y.place y.length ++ drop y.length buffer)

  facts : Facts
  facts = grind (arith, common_steps)

  long : length (bytes_at cs y.place y.length) ≡ y.length
  long = simp (length-map, length-take, length-drop) (omega (arith, row_inside laws cs y facts.0))

  pub body_there : (after : List ℕ) → after ≡ (fetching m cs i buffer s).1 → take (n - 16) (drop 14 after) ≡ body cs y
  body_there after l =
      ap (λ z. take (z - 16) (drop 14 after)) facts.2 ∙ ap (λ z. take (y.length - 16) (drop 14 z)) (l ∙ facts.3) ∙ front_body (bytes_at cs y.place y.length) (drop y.length buffer) y.length long
