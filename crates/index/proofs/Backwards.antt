-- The search for settings from the back of the rows, by what a run of it gave.
use Rattle.std.proofs.Common.{◌≡◌, ℕ, ◌+◌, ◌-◌, ◌<◌, ◌≤◌, Bool, true, List, length, get_or, Some, None, Option, IsSomeAnd, IfSome, MatchOption, ap, ◌∙◌, arith}
use Rattle.std.specs.Option.{option_map}
use Rattle.recording.specs.declared.Cell.{Cell}
use Rattle.records.specs.Records.{Meaning}
use Rattle.layouts.specs.declared.settings.Counter.{Counter}
use Rattle.indexfile.specs.declared.row.Row.{Row}
use Rattle.indexfile.specs.Written.{no_row}
use Rattle.listing.proofs.Settles.{says, By, found_back, none_back}
use Rattle.std.proofs.lemmas.Grind.{common_steps}

module _ (m : Meaning) (cs : List Cell) (y : Row) {A : Type 0} (now : A → Row) (table : List Row) (len : ℕ) (whole : Bool) (at : ℕ → Option A)
    (long : len ≤ length table) (all : whole ≡ true → len ≡ length table)
    (there : (k : ℕ) (d : Row) → k < length table → length table - 1 - k < len → option_map now (at (length table - 1 - k)) ≡ Some (get_or table k d)) where
  abbrev Said : Option Counter → ℕ → Type 0
  Said o k = o ≡ says m cs y (get_or table (length table - 1 - k) no_row)

  item : (k : ℕ) → k < len → option_map now (at k) ≡ Some (get_or table (length table - 1 - k) no_row)
  item k h = grind (arith, common_steps)

  module _ {Keeps : Type 0} {Misses : A → Type 0} {Hits : Counter → A → Type 0} (keeps : Keeps) (missed : (x : A) → Misses x → None ≡ says m cs y (now x)) (hit : (c : Counter) (x : A) → Hits c x → Some c ≡ says m cs y (now x)) where
    -- what a call answered at a place it says of the row there
    said : {P : A → Type 0} (o : Option Counter) → ((x : A) → P x → o ≡ says m cs y (now x)) → (k : ℕ) → k < len → IfSome (at k) P → Said o k
    said {P} o gives k h = go (at k) (item k h)
      where
        go : (v : Option A) → option_map now v ≡ Some (get_or table (length table - 1 - k) no_row) → IfSome v P → Said o k
        go None e f = let z : ◌≡◌ {A = ℕ} 0 1 = cc in absurd (omega arith)
        go (Some x) e f = let same : now x ≡ get_or table (length table - 1 - k) no_row = cc in gives x f ∙ ap (says m cs y) same

    there_too : (P : A → Type 0) (v : Option A) → IsSomeAnd v P → IfSome v P
    there_too P None f = absurd f
    there_too P (Some x) f = f

    pub found : (r : Option Counter)
        → MatchOption r ((whole ≡ true) × (Keeps → (k : ℕ) → IfSome (at k) (λ x. Misses x)))
        (λ c. (i : ℕ) × (i < len) × (len ≡ i + 1) × (Keeps → IsSomeAnd (at i) (λ x. Hits c x) × ((k : ℕ) → k < i → IsSomeAnd (at k) (λ x. Misses x))))
        → r ≡ By m cs table y
    found None run = none_back m cs table y (λ k h. said None missed k (omega (arith, all run.0)) (run.1 keeps k))
    found (Some c) run =
        let i = run.0 in
        found_back m cs table y i c (omega arith) (λ k h. said None missed k (omega arith) (there_too Misses (at k) ((run.3 keeps).1 k h))) (said (Some c) (hit c) i run.1 (there_too (Hits c) (at i) (run.3 keeps).0))
