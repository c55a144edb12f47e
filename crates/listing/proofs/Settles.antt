-- The search for the settings that govern a row.
use Rattle.std.proofs.Common.{◌≡◌, ℕ, zero, suc, ◌+◌, ◌-◌, ◌<◌, ◌≤◌, Bool, true, false, cond, List, [], ◌∷◌, ◌++◌, map, length, get_or, take, drop, is_some, Some, None, filter, Option, sym, refl, ap, ◌∙◌, inl, inr, append-nil, arith, length-drop, length-take, drop-drop}
use lib.ListN.{length-map}
use Rattle.std.proofs.lemmas.Bool.{cases_lt, and_parts}
use Rattle.std.proofs.lemmas.List.{take_all, take-take, drop-take, take-map, drop-map}
use Rattle.recording.specs.declared.Cell.{Cell}
use Rattle.indexfile.specs.declared.row.Row.{Row}
use Rattle.records.specs.Records.{Meaning, run}
use Rattle.layouts.specs.declared.settings.Counter.{Counter}
use Rattle.indexfile.specs.Written.{no_row}
use Rattle.listing.specs.Fetching.{byte_of, bytes_at}
use Rattle.listing.specs.Settling.{body, counter_in, last, is_settings, governing, counter_by}
use Rattle.listing.proofs.Moved.{last_right}
use Rattle.std.proofs.lemmas.Grind.{common_steps}

inner : {X : Type 0} (n : ℕ) (xs : List X) → take (n - 16) (drop 14 (take n xs)) ≡ take (n - 16) (drop 14 xs)
inner n xs = elim (cases_lt n 16) [ inl l ↦ none (omega arith) | inr l ↦ some (omega arith) (omega arith) ]
  where
    none : n - 16 ≡ 0 → take (n - 16) (drop 14 (take n xs)) ≡ take (n - 16) (drop 14 xs)
    none e = rw e

    some : n - 16 ≤ n - 14 → n ≡ 14 + (n - 14) → take (n - 16) (drop 14 (take n xs)) ≡ take (n - 16) (drop 14 xs)
    some l e = ap (λ z. take (n - 16) (drop 14 (take z xs))) e ∙ ap (take (n - 16)) (drop-take 14 (n - 14) xs) ∙ take-take (n - 16) (n - 14) (drop 14 xs) l

-- the cells of a body
pub body_at : (cs : List Cell) (y : Row) → body cs y ≡ bytes_at cs (y.place + 14) (y.length - 16)
body_at cs y =
    let n = y.length in
    ap (take (n - 16)) (drop-map byte_of 14 (run cs y.place n)) ∙ take-map byte_of (n - 16) (drop 14 (run cs y.place n)) ∙ ap (map byte_of) (inner n (drop y.place cs) ∙ ap (take (n - 16)) (drop-drop 14 y.place cs))

-- settings have at most 222 bytes
too_many : (bs : List ℕ) → 222 < length bs → counter_in bs ≡ None
too_many bs h = grind (arith, common_steps)

pub too_long : (cs : List Cell) (x : Row) → x.place + x.length ≤ length cs → 222 < x.length - 16 → counter_in (body cs x) ≡ None
too_long cs x h l = grind (arith, common_steps, length-map, length-take, length-drop, too_many, body_at)

module _ (m : Meaning) (cs : List Cell) where
  -- what one row says
  abbrev pub says : Row → Row → Option Counter
  says y x = cond (is_settings m cs y x) (counter_in (body cs x)) None

  abbrev pub By : List Row → Row → Option Counter
  By rows y = counter_by m cs (governing m cs rows y)

  more : (table : List Row) (y x : Row) (i : ℕ) → i < length table → x ≡ get_or table i no_row → filter (is_settings m cs y) (take (i + 1) table) ≡ filter (is_settings m cs y) (take i table) ++ cond (is_settings m cs y x) (x ∷ []) []
  more table y x i l e = grind (arith, common_steps)

  counted : (y x : Row) → is_settings m cs y x ≡ true → is_some (counter_in (body cs x)) ≡ true
  counted y x e = grind (arith, common_steps, and_parts)

  -- a row that says nothing is passed
  pub passed : (table : List Row) (y x : Row) (i : ℕ) → i < length table → x ≡ get_or table i no_row → None ≡ says y x → By (take (i + 1) table) y ≡ By (take i table) y
  passed table y x i l e s = go (is_settings m cs y x) refl
    where
      go : (t : Bool) → is_settings m cs y x ≡ t → By (take (i + 1) table) y ≡ By (take i table) y
      go false p = ap (λ z. counter_by m cs (last z)) (more table y x i l e ∙ ap (λ t. filter (is_settings m cs y) (take i table) ++ cond t (x ∷ []) []) p ∙ append-nil (filter (is_settings m cs y) (take i table)))
      go true p = absurd (never (counter_in (body cs x)) (counted y x p) (s ∙ ap (λ t. cond t (counter_in (body cs x)) None) p))
        where
          never : (o : Option Counter) → is_some o ≡ true → None ≡ o → ⊥
          never None f z = let w : ◌≡◌ {A = ℕ} 0 1 = cc in omega arith
          never (Some c) f z = let w : ◌≡◌ {A = ℕ} 0 1 = cc in omega arith

  -- a row that says something governs
  pub governs : (table : List Row) (y x : Row) (i : ℕ) (c : Counter) → i < length table → x ≡ get_or table i no_row → Some c ≡ says y x → Some c ≡ By (take (i + 1) table) y
  governs table y x i c l e s = go (is_settings m cs y x) refl
    where
      go : (t : Bool) → is_settings m cs y x ≡ t → Some c ≡ By (take (i + 1) table) y
      go false p = let z : Some c ≡ None = s ∙ ap (λ t. cond t (counter_in (body cs x)) None) p in let w : ◌≡◌ {A = ℕ} 0 1 = cc in absurd (omega arith)
      go true p =
          s ∙ ap (λ t. cond t (counter_in (body cs x)) None) p
          ∙ sym (ap (λ z. counter_by m cs (last z)) (more table y x i l e ∙ ap (λ t. filter (is_settings m cs y) (take i table) ++ cond t (x ∷ []) []) p) ∙ ap (counter_by m cs) (last_right (filter (is_settings m cs y) (take i table)) x []))

  -- rows at the back that say nothing are passed
  back : (table : List Row) (y : Row) (i : ℕ) → i ≤ length table → ((k : ℕ) → k < i → None ≡ says y (get_or table (length table - 1 - k) no_row)) → By (take (length table - i) table) y ≡ By table y
  back table y zero l none = ap (λ z. By z y) (take_all (length table - 0) table (omega arith))
  back table y (suc i) l none =
      let at : length table - 1 - i ≡ length table - suc i = omega arith in
      let next : length table - suc i + 1 ≡ length table - i = omega arith in
      sym (passed table y (get_or table (length table - suc i) no_row) (length table - suc i) (omega arith) refl (none i (omega arith) ∙ ap (λ z. says y (get_or table z no_row)) at))
      ∙ ap (λ z. By (take z table) y) next ∙ back table y i (omega arith) (λ k h. none k (omega arith))

  -- the last that says something governs
  pub found_back : (table : List Row) (y : Row) (i : ℕ) (c : Counter) → i < length table → ((k : ℕ) → k < i → None ≡ says y (get_or table (length table - 1 - k) no_row)) → Some c ≡ says y (get_or table (length table - 1 - i) no_row) → Some c ≡ By table y
  found_back table y i c l none one =
      let next : length table - 1 - i + 1 ≡ length table - i = omega arith in
      governs table y (get_or table (length table - 1 - i) no_row) (length table - 1 - i) c (omega arith) refl one
      ∙ ap (λ z. By (take z table) y) next ∙ back table y i (omega arith) none

  pub none_back : (table : List Row) (y : Row) → ((k : ℕ) → k < length table → None ≡ says y (get_or table (length table - 1 - k) no_row)) → None ≡ By table y
  none_back table y none =
      let z : 0 ≡ length table - length table = omega arith in
      (λ j. By (take (z j) table) y) ∙ back table y (length table) (omega arith) none
