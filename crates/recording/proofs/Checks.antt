-- What a check of the rows finds.
use Rattle.std.proofs.Common.{◌≡◌, ℕ, zero, suc, ◌+◌, ◌<◌, ◌≤◌, Bool, true, false, cond, ltb, leb, List, [], ◌∷◌, ◌++◌, length, get_or, drop, Ok, Err, Result, sym, refl, ap, ◌∙◌, subst, arith}
use Rattle.std.specs.List.{flat_map}
use Rattle.std.specs.Result.{result_and}
use Rattle.std.proofs.lemmas.List.{at_drop_more, take_all}
use Rattle.std.proofs.lemmas.Bool.{ltb-true, ltb-false, leb-true, leb-false, le-leb, cond-true}
use Rattle.recording.specs.declared.extents.Extent.{Extent}
use Rattle.recording.specs.declared.extents.BadExtent.{BadExtent}
use Rattle.recording.specs.declared.extents.BadExtent.TheVariants.{TooLong, TooMany}
use Rattle.recording.specs.Pieces.{run, added, piece, judged, first_bad}
use Rattle.recording.specs.Checks.{length_at, Sound, Checked}
use Rattle.recording.proofs.Rows.{no_extent}

-- a row that adds its cells is passed, and any other is named
pub bad_more : (rows : List Extent) (i : ℕ) (u : Unit {0}) → i < length rows → Ok u ≡ judged i (get_or rows i no_extent) → first_bad (i + 1) (drop (i + 1) rows) ≡ first_bad i (drop i rows)
bad_more rows i u h e = ap (λ r. result_and r (first_bad (i + 1) (drop (i + 1) rows))) e ∙ sym (at_drop_more (first_bad i) rows i no_extent h)

pub bad_here : (rows : List Extent) (i : ℕ) (b : BadExtent) → i < length rows → Err b ≡ judged i (get_or rows i no_extent) → Err b ≡ first_bad i (drop i rows)
bad_here rows i b h e = ap (λ r. result_and r (first_bad (i + 1) (drop (i + 1) rows))) e ∙ sym (at_drop_more (first_bad i) rows i no_extent h)

-- the first n rows, numbered from i on, add their cells
abbrev Before : ℕ → List Extent → ℕ → Type 0
Before i rows n = (j : ℕ) → j < n → (i + j < 64) × (length_at rows j ≤ 33554431)

abbrev Found : ℕ → List Extent → Result (Unit {0}) BadExtent → Type 0
Found i rows (Ok u) = Before i rows (length rows)
Found i rows (Err (TooLong n)) = (k : ℕ) × (n ≡ i + k) × (k < length rows) × Before i rows k × (n < 64) × (33554431 < length_at rows k)
Found i rows (Err (TooMany n)) = (k : ℕ) × (n ≡ i + k) × (k < length rows) × Before i rows k × (64 ≤ n)

before_more : (i : ℕ) (e : Extent) (es : List Extent) (n : ℕ) → i < 64 → e.length ≤ 33554431 → Before (i + 1) es n → Before i (e ∷ es) (suc n)
before_more i e es n l s b zero h = (omega arith, s)
before_more i e es n l s b (suc j) h = let p = b j (omega arith) in (omega (arith, p.0), p.1)

found_more : (i : ℕ) (e : Extent) (es : List Extent) (r : Result (Unit {0}) BadExtent) → i < 64 → e.length ≤ 33554431 → Found (i + 1) es r → Found i (e ∷ es) r
found_more i e es (Ok u) l s b = before_more i e es (length es) l s b
found_more i e es (Err (TooLong n)) l s (k, p, h, b, f, g) = (suc k, omega arith, omega arith, before_more i e es k l s b, f, g)
found_more i e es (Err (TooMany n)) l s (k, p, h, b, f) = (suc k, omega arith, omega arith, before_more i e es k l s b, f)

found : (i : ℕ) (rows : List Extent) → Found i rows (first_bad i rows)
found i [] = λ j h. absurd (omega arith)
found i (e ∷ es) = by (found (i + 1) es) (leb 64 i) (ltb 33554431 e.length) refl refl
  where
    by : Found (i + 1) es (first_bad (i + 1) es) → (p q : Bool) → leb 64 i ≡ p → ltb 33554431 e.length ≡ q → Found i (e ∷ es) (result_and {T = Unit {0}} (cond p (Err (TooMany i)) (cond q (Err (TooLong i)) (Ok tt))) (first_bad (i + 1) es))
    by rest true q l s = (0, omega arith, omega arith, λ j h. absurd (omega arith), leb-true 64 i l)
    by rest false true l s = (0, omega arith, omega arith, λ j h. absurd (omega arith), leb-false 64 i l, ltb-true 33554431 e.length s)
    by rest false false l s = found_more i e es (first_bad (i + 1) es) (leb-false 64 i l) (ltb-false 33554431 e.length s) rest

sound : (rows : List Extent) (n : ℕ) → Before 0 rows n → Sound rows n
sound rows zero b = (omega arith, λ k h. absurd (omega arith))
sound rows (suc n) b = (omega (arith, (b n (omega arith)).0), λ k h. (b k h).1)

full_pieces : (image : List ℕ) (rows : List Extent) → ((k : ℕ) → k < length rows → length_at rows k ≤ 33554431) → flat_map (piece image) rows ≡ flat_map (λ e. run image e.place e.length) rows
full_pieces image [] s = refl
full_pieces image (e ∷ es) s =
    let a : added e ≡ e.length = cond-true (leb e.length 33554431) e.length 0 (le-leb e.length 33554431 (s 0 (omega arith))) in
    λ j. run image e.place (a j) ++ full_pieces image es (λ k h. s (suc k) (omega arith)) j

says : (image : List ℕ) (rows : List Extent) (r : Result (Unit {0}) BadExtent) → Found 0 rows r → Checked image rows r
says image rows (Ok u) b =
    let s = sound rows (length rows) b in
    (s, ap (flat_map (piece image)) (take_all 64 rows s.0) ∙ full_pieces image rows s.1)
says image rows (Err (TooLong n)) (k, p, h, b, f, g) =
    let e : k ≡ n = omega arith in
    subst (λ j. (j < length rows) × Sound rows j × (j < 64) × (33554431 < length_at rows j)) e (h, sound rows k b, omega arith, g)
says image rows (Err (TooMany n)) (k, p, h, b, f) =
    let s = sound rows k b in
    let e : k ≡ n = omega arith in
    subst (λ j. (j < length rows) × Sound rows j × (j ≡ 64)) e (h, s, omega (arith, s.0))

pub checked : (image : List ℕ) (rows : List Extent) (r : Result (Unit {0}) BadExtent) → r ≡ first_bad 0 rows → Checked image rows r
checked image rows r e = says image rows r (subst (Found 0 rows) (sym e) (found 0 rows))
