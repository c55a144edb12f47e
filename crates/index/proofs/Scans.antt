-- A run of turns from one state of an index to another.
use Rattle.std.proofs.Common.{◌≡◌, ℕ, ◌+◌, ◌-◌, ◌<◌, ◌≤◌, Bool, true, false, cond, List, length, None, sym, ap, ◌∙◌, arith}
use Rattle.indexfile.specs.declared.row.Row.{Row}
use Rattle.listing.specs.declared.answer.Stop.TheVariants.{Ended, Spent, Full}
use Rattle.listing.specs.Scanning.{outcome, scanned}
use Rattle.listing.proofs.Scans.{ended, spent, turn_more}
use Rattle.index.specs.declared.Index.{Index}
use Rattle.index.specs.Indexes.{Stores, Kinds, cells_of, meaning_of, progress}
use Rattle.listing.specs.Progress.{Progress}
use Rattle.index.proofs.Vacancies.{skips}
use Rattle.index.specs.Calls.{Turn, Pass, Turns}
use Rattle.std.proofs.lemmas.Grind.{common_steps}

-- a run of turns from x that has come to y, with so many tests made
pub record Sofar {S K : Type 0} (s : Stores S) (k : Kinds K) (budget : ℕ) (x : Index S K s k) (table : List Row) (tests : ℕ) (y : Index S K s k) (after : List Row) : Type 0 where
  pub store : y.store ≡ x.store
  pub kind : y.kind ≡ x.kind
  pub grows : x.counts.rows ≤ y.counts.rows
  pub spare : tests ≤ budget
  pub run : scanned (meaning_of k x) (cells_of s x) (budget - tests) tests (progress y after) ≡ scanned (meaning_of k x) (cells_of s x) budget 0 (progress x table)

module _ {S K : Type 0} {s : Stores S} {k : Kinds K} {budget : ℕ} {x : Index S K s k} {table : List Row} {tests : ℕ} {y : Index S K s k} {after : List Row} (sofar : Sofar s k budget x table tests y after) where
  -- the store is the same, so its length is
  same_length : length (cells_of s y) ≡ length (cells_of s x)
  same_length = ap (λ a. length (s.cells a)) sofar.store

  pub run_ended : length (cells_of s y) ≤ y.counts.place → Turns s k budget x table Ended tests y after
  run_ended h =
      let l = same_length in
      record { store = sofar.store; kind = sofar.kind; grows = sofar.grows; run = sym (ended (meaning_of k x) (cells_of s x) (budget - tests) tests (progress y after) (omega arith)) ∙ sofar.run }

  pub run_spent : tests ≡ budget → y.counts.place < length (cells_of s y) → Turns s k budget x table Spent tests y after
  run_spent e h =
      let l = same_length in
      record { store = sofar.store; kind = sofar.kind; grows = sofar.grows; run = sym (spent (meaning_of k x) (cells_of s x) (budget - tests) tests (progress y after) (omega arith) (omega arith)) ∙ sofar.run }

  module _ {z : Index S K s k} {r : Bool} {last : List Row} (one : Turn s k y after r z last) where
    after_turn : tests < budget → y.counts.place < length (cells_of s y) → scanned (meaning_of k x) (cells_of s x) budget 0 (progress x table) ≡ cond r (scanned (meaning_of k x) (cells_of s x) (budget - (tests + 1)) (tests + 1) (progress z last)) (outcome Full (tests + 1) (progress z last))
    after_turn lt h = grind (arith, common_steps, same_length, turn_more)

  pub one_more : {z : Index S K s k} {last : List Row} → tests < budget → y.counts.place < length (cells_of s y) → Turn s k y after true z last → Sofar s k budget x table (tests + 1) z last
  one_more lt h one = record {
    store = one.store ∙ sofar.store;
    kind = one.kind ∙ sofar.kind;
    grows = omega (arith, one.grows, sofar.grows);
    spare = omega arith;
    run = sym (after_turn one lt h);
  }

  pub run_full : {z : Index S K s k} {last : List Row} → tests < budget → y.counts.place < length (cells_of s y) → Turn s k y after false z last → Turns s k budget x table Full (tests + 1) z last
  run_full lt h one = record {
    store = one.store ∙ sofar.store;
    kind = one.kind ∙ sofar.kind;
    grows = omega (arith, one.grows, sofar.grows);
    run = sym (after_turn one lt h);
  }

  -- cells are skipped at which nothing stands
  pub passed : {n : ℕ} {z : Index S K s k} → Pass s k (budget - tests) y n z → Sofar s k budget x table (tests + n) z after
  passed {n} {z} one =
      let m = meaning_of k x in
      let cs = cells_of s x in
      let l = same_length in
      let none : (i : ℕ) → i < n → m cs (y.counts.place + i) ≡ None = λ i h. sym (λ j. k.stands (sofar.kind j) (s.cells (sofar.store j)) (y.counts.place + i)) ∙ one.none i h in
      record {
        store = one.store ∙ sofar.store;
        kind = one.kind ∙ sofar.kind;
        grows = omega (arith, sofar.grows, ap (λ (p : Progress). p.rows) (one.left after));
        spare = omega (arith, one.few, sofar.spare);
        run =
            ap (scanned m cs (budget - (tests + n)) (tests + n)) (one.left after)
            ∙ sym (skips m cs budget n tests (progress y after) (omega (arith, one.few, sofar.spare)) (omega (arith, one.within)) none) ∙ sofar.run;
      }
