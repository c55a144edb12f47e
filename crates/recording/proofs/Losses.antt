-- Facts on stretches that are lost.
use Rattle.std.proofs.Common.{◌≡◌, ℕ, zero, suc, ◌+◌, ◌-◌, ◌<◌, ◌≤◌, min, max, Bool, true, false, cond, ◌||◌, ◌⊎◌, List, [], ◌∷◌, ◌++◌, length, get_or, take, Ok, Err, Result, sym, refl, ap, ◌∙◌, ⊎_elim, le_of_suc-le-suc, not-suc-le-zero, arith, length-take, get_or-take}
use Rattle.std.specs.List.{list_any}
use Rattle.std.proofs.lemmas.List.Folds.{list_any-append, list_any_more}
use Rattle.std.proofs.Math.Bool.{or-false}
use Rattle.std.proofs.lemmas.Bool.{or_cases, or_parts, or_from, or_left, or_right, and_from, and_left, and_right, ltb-true, ltb-false, le-leb, lt-leb, lt-ltb, le-ltb, cases_lt, false≢true}
use Rattle.recording.specs.declared.PastEnd.{PastEnd}
use Rattle.recording.specs.declared.Cell.{Cell}
use Rattle.recording.specs.declared.Cell.TheVariants.{Byte, Lost}
use Rattle.recording.specs.declared.stretches.Stretch.{Stretch}
use Rattle.recording.specs.Cells.{cell_at, is_byte, whole_from, Stand}
use Rattle.recording.specs.Marks.{holds, meets, lost_at, losing, without, lose, length-losing}
use Rattle.recording.specs.Losses.{Without, Loses}
use Rattle.recording.specs.declared.stretches.MarkRefusal.{MarkRefusal}
use Rattle.std.specs.Result.{is_ok, OnOk, OnErr}
use Rattle.arrayvec.specs.ArrayVec.{ArrayVec}
use Rattle.recording.proofs.Lists.{whole_same, not_whole}

-- what is read at a place
unless : (b : Bool) (c : Cell) → ◌≡◌ {A = Result Cell PastEnd} (Ok (cond b Lost c)) (cond b (Ok Lost) (Ok c))
unless true c = refl
unless false c = refl

either_way : {X : Type 0} (b : Bool) (x : X) → x ≡ cond b x x
either_way true x = refl
either_way false x = refl

at_losing : (ss : List Stretch) (place : ℕ) (cs : List Cell) (k j : ℕ) → place + k ≡ j → cell_at (losing ss place cs) k ≡ cond (lost_at ss j) (lose (cell_at cs k)) (cell_at cs k)
at_losing ss place [] k j e = either_way {X = Result Cell PastEnd} (lost_at ss j) (Err (record {}))
at_losing ss place (c ∷ cs) zero j e =
    let f : place ≡ j = omega arith in
    unless (lost_at ss place) c ∙ ap {A = ℕ} {B = Result Cell PastEnd} (λ p. cond (lost_at ss p) (Ok Lost) (Ok c)) f
at_losing ss place (c ∷ cs) (suc k) j e = at_losing ss (suc place) cs k j (omega arith)

at_without : (ss : List Stretch) (cs : List Cell) (k : ℕ) → cell_at (without ss cs) k ≡ cond (lost_at ss k) (lose (cell_at cs k)) (cell_at cs k)
at_without ss cs k = at_losing ss 0 cs k k (omega arith)

pub lost_at_lem : (ss : List Stretch) (cs : List Cell) (k : ℕ) → lost_at ss k ≡ true → lose (cell_at cs k) ≡ cell_at (without ss cs) k
lost_at_lem ss cs k e = sym (at_without ss cs k ∙ ap (λ b. cond b (lose (cell_at cs k)) (cell_at cs k)) e)

pub kept_at : (ss : List Stretch) (cs : List Cell) (k : ℕ) → lost_at ss k ≡ false → cell_at cs k ≡ cell_at (without ss cs) k
kept_at ss cs k e = sym (at_without ss cs k ∙ ap (λ b. cond b (lose (cell_at cs k)) (cell_at cs k)) e)

-- a run that meets no stretch is whole where it was, and one that meets a stretch is not
never_byte : (r : Result Cell PastEnd) → is_byte (lose r) ≡ false
never_byte (Ok c) = refl
never_byte (Err e) = refl

touched : (s : Stretch) (a n : ℕ) → meets s a n ≡ true → holds s (max a s.first) ≡ true
touched s a n e =
    let l : max a s.first < min (a + n) (s.first + s.count) = ltb-true _ _ e in
    and_from _ _ (le-leb s.first (max a s.first) (omega arith)) (lt-ltb (max a s.first) (s.first + s.count) (omega arith))

untouched : (s : Stretch) (a n k : ℕ) → meets s a n ≡ false → a ≤ k → k < a + n → holds s k ≡ false
untouched s a n k e l u =
    let m : min (a + n) (s.first + s.count) ≤ max a s.first = ltb-false _ _ e in
    ⊎_elim (λ lt. and_left _ _ (lt-leb s.first k lt)) (λ ge. and_right _ _ (le-ltb k (s.first + s.count) (omega arith))) (cases_lt k s.first)

met : (ss : List Stretch) (a n : ℕ) → list_any (λ s. meets s a n) ss ≡ true → (k : ℕ) × (a ≤ k) × (k < a + n) × (lost_at ss k ≡ true)
met [] a n e = let z : ◌≡◌ {A = ℕ} 0 1 = cc in absurd (omega arith)
met (s ∷ ss) a n e =
    ⊎_elim
    (λ t. let l : max a s.first < min (a + n) (s.first + s.count) = ltb-true _ _ t in (max a s.first, omega arith, omega arith, or_left _ _ (touched s a n t)))
    (λ t. let r = met ss a n t in (r.0, r.1, r.2, or_right _ _ r.3))
    (or_cases (meets s a n) (list_any (λ s. meets s a n) ss) e)

unmet : (ss : List Stretch) (a n k : ℕ) → list_any (λ s. meets s a n) ss ≡ false → a ≤ k → k < a + n → lost_at ss k ≡ false
unmet [] a n k e l u = refl
unmet (s ∷ ss) a n k e l u =
    let p = or_parts (meets s a n) (list_any (λ s. meets s a n) ss) e in
    or_from _ _ (untouched s a n k p.0 l u) (unmet ss a n k p.1 l u)

pub whole_met : (ss : List Stretch) (cs : List Cell) (a n : ℕ) → list_any (λ s. meets s a n) ss ≡ true → false ≡ whole_from (without ss cs) a n
whole_met ss cs a n e =
    let r = met ss a n e in
    sym (not_whole (without ss cs) a n r.0 r.1 r.2 (ap is_byte (sym (lost_at_lem ss cs r.0 r.3)) ∙ never_byte (cell_at cs r.0)))

pub whole_unmet : (ss : List Stretch) (cs : List Cell) (a n : ℕ) → list_any (λ s. meets s a n) ss ≡ false → whole_from cs a n ≡ whole_from (without ss cs) a n
whole_unmet ss cs a n e =
    sym (whole_same (without ss cs) cs a a n (λ i j o l u.
    let f : i ≡ j = omega arith in
    ap is_byte (sym (kept_at ss cs i (unmet ss a n i e l u)) ∙ ap (cell_at cs) f)))

-- without marks all is as it was
pub none_lost : (place : ℕ) (cs : List Cell) → losing [] place cs ≡ cs
none_lost place [] = refl
none_lost place (c ∷ cs) = ap (λ ds. c ∷ ds) (none_lost (suc place) cs)

-- one more mark loses its stretch of what was there before
is_there : (cs : List Cell) (k : ℕ) → k < length cs → lose (cell_at cs k) ≡ Ok Lost
is_there [] k h = absurd (not-suc-le-zero h)
is_there (c ∷ cs) zero h = refl
is_there (c ∷ cs) (suc k) h = is_there cs k (le_of_suc-le-suc h)

pub mark_loses : (ss ts : List Stretch) (s : Stretch) (cs : List Cell) → ts ≡ ss ++ s ∷ [] → s.first + s.count ≤ length cs → Without s (without ss cs) (without ts cs)
mark_loses ss ts s cs e h = record { length = length-losing ts 0 cs ∙ sym (length-losing ss 0 cs); inside = in_it; outside = out }
  where
    at : (k : ℕ) → lost_at ts k ≡ (lost_at ss k || (holds s k || false))
    at k = ap (λ us. lost_at us k) e ∙ list_any-append (λ t. holds t k) ss (s ∷ [])

    in_it : (k : ℕ) → s.first ≤ k → k < s.first + s.count → cell_at (without ts cs) k ≡ Ok Lost
    in_it k l u =
        sym (lost_at_lem ts cs k (at k ∙ or_right _ _ (or_left _ _ (and_from _ _ (le-leb s.first k l) (lt-ltb k (s.first + s.count) u))))) ∙ is_there cs k (omega arith)

    out : (k : ℕ) → (k < s.first) ⊎ (s.first + s.count ≤ k) → cell_at (without ts cs) k ≡ cell_at (without ss cs) k
    out k o =
        let n : holds s k ≡ false = ⊎_elim (λ lt. and_left _ _ (lt-leb s.first k lt)) (λ ge. and_right _ _ (le-ltb k (s.first + s.count) ge)) o in
        let same : lost_at ts k ≡ lost_at ss k = at k ∙ ap (λ b. lost_at ss k || (b || false)) n ∙ or-false (lost_at ss k) in
        at_without ts cs k ∙ ap (λ b. cond b (lose (cell_at cs k)) (cell_at cs k)) same ∙ sym (at_without ss cs k)

-- what a push leaves, and the answer that follows it
pub push_loses : {E : Type 0} (ss ts : List Stretch) (s : Stretch) (cs : List Cell) (pushed : Result (Unit {0}) E) (r : Result (Unit {0}) MarkRefusal) → is_ok r ≡ is_ok pushed
    → OnOk pushed (ts ≡ ss ++ s ∷ []) → OnErr pushed (◌≡◌ {A = ArrayVec Stretch} (record { items = ts }) (record { items = ss })) → s.first + s.count ≤ length cs → Loses s (without ss cs) (without ts cs) r
push_loses ss ts s cs (Ok u) (Ok v) e ok err h = mark_loses ss ts s cs ok h
push_loses ss ts s cs (Ok u) (Err x) e ok err h = absurd (false≢true e)
push_loses ss ts s cs (Err y) (Ok v) e ok err h = absurd (false≢true (sym e))
push_loses ss ts s cs (Err y) (Err x) e ok err h = ap (λ v. without v.items cs) err

-- what a slice of stretches is read at past its end
abbrev pub no_stretch : Stretch
no_stretch = record { first = 0; count = 0 }

-- one stretch more in which the place does not lie
pub unmarked_more : (ss : List Stretch) (i place : ℕ) (d : Stretch) → i < length ss → lost_at (take i ss) place ≡ false → holds (get_or ss i d) place ≡ false → lost_at (take (i + 1) ss) place ≡ false
unmarked_more ss i place d h e f =
    list_any_more (λ s. holds s place) ss i d h ∙ or_from _ _ e f

-- bytes that stand below stand above up to the next stretch
pub kept_run : (ss ts : List Stretch) (cs : List Cell) (at n : ℕ) (bs : List ℕ) → ts ≡ ss → Stand cs at bs → ((k : ℕ) → k < n → lost_at ts (at + k) ≡ false) → Stand (without ss cs) at (take (n - 0) bs)
kept_run ss ts cs at n bs e stand free k h =
    let lt : k < min n (length bs) = omega (arith, length-take (n - 0) bs) in
    sym (kept_at ss cs (at + k) (ap (λ rs. lost_at rs (at + k)) (sym e) ∙ free k (omega arith))) ∙ stand k (omega arith) ∙ ap (λ b. Ok (Byte b)) (sym (get_or-take (n - 0) bs k 0 (omega arith)))
