-- Places at which no record begins, passed over many at a time.
use Rattle.std.proofs.Common.{◌≡◌, ℕ, zero, suc, ◌+◌, ◌-◌, ◌<◌, ◌≤◌, cond, List, length, take, None, ap, ◌∙◌, arith, length-take, get_or-take}
use Rattle.recording.specs.declared.Cell.{Cell}
use Rattle.recording.specs.Cells.{is_byte, Stand}
use Rattle.recording.proofs.Lists.{byte_within}
use Rattle.records.specs.Records.{Meaning}
use Rattle.listing.specs.declared.answer.Stop.TheVariants.{Full}
use Rattle.listing.specs.Clearing.{ends_after, first_crossing}
use Rattle.listing.specs.Progress.{Progress, at}
use Rattle.listing.specs.Scanning.{turned, outcome, scanned}
use Rattle.listing.proofs.Clears.{past}
use Rattle.listing.proofs.Scans.{turn_more}
use Rattle.std.proofs.lemmas.Grind.{common_steps}

-- bytes that stand in a recording lie inside it
pub stand_within : (cs : List Cell) (p : ℕ) (bs : List ℕ) → Stand cs p bs → (n : ℕ) → n ≤ length bs → p ≤ length cs → p + n ≤ length cs
stand_within cs p bs stand zero h l = omega arith
stand_within cs p bs stand (suc k) h l = let here : p + k < length cs = byte_within cs (p + k) (ap is_byte (stand k (omega arith))) in omega arith

-- and so do the first n of them
pub stand_less : (cs : List Cell) (p : ℕ) (bs : List ℕ) (n : ℕ) → Stand cs p bs → Stand cs p (take n bs)
stand_less cs p bs n stand k h = grind (arith, common_steps, length-take, get_or-take)

module _ (m : Meaning) (cs : List Cell) where
  first_none : (k p : ℕ) → ((i : ℕ) → i < suc k → m cs (p + i) ≡ None) → m cs p ≡ None
  first_none k p none = ap (m cs) (omega arith) ∙ none 0 (omega arith)

  other_none : (k p : ℕ) → ((i : ℕ) → i < suc k → m cs (p + i) ≡ None) → (i : ℕ) → i < k → m cs (p + 1 + i) ≡ None
  other_none k p none i h = ap (m cs) (omega arith) ∙ none (suc i) (omega arith)

  -- none of k places holds a record that crosses the boundary
  pub past_none : (b k p : ℕ) → ((i : ℕ) → i < k → m cs (p + i) ≡ None) → first_crossing m cs b (b - p) p ≡ first_crossing m cs b (b - (p + k)) (p + k)
  past_none b zero p none = ap (λ q. first_crossing m cs b (b - q) q) (omega arith)
  past_none b (suc k) p none =
      let same : p + 1 + k ≡ p + suc k = omega arith in
      past m cs b p (ap (ends_after b p) (first_none k p none)) ∙ past_none b k (p + 1) (other_none k p none) ∙ ap (λ q. first_crossing m cs b (b - q) q) same

  -- k tests, each of which skips a cell
  pub skips : (budget k tests : ℕ) (s : Progress) → tests + k ≤ budget → s.place + k ≤ length cs → ((i : ℕ) → i < k → m cs (s.place + i) ≡ None)
      → scanned m cs (budget - tests) tests s ≡ scanned m cs (budget - (tests + k)) (tests + k) (at (s.place + k) (s.skipped + k) s.rows s.table)
  skips budget zero tests s few within none =
      let t : tests ≡ tests + 0 = omega arith in
      let p : s.place ≡ s.place + 0 = omega arith in
      let q : s.skipped ≡ s.skipped + 0 = omega arith in
      λ j. scanned m cs (budget - t j) (t j) (at (p j) (q j) s.rows s.table)
  skips budget (suc k) tests s few within none =
      let t : tests + 1 + k ≡ tests + suc k = omega arith in
      let p : s.place + 1 + k ≡ s.place + suc k = omega arith in
      let q : s.skipped + 1 + k ≡ s.skipped + suc k = omega arith in
      turn_more m cs budget tests s (omega arith) (omega arith)
      ∙ ap (λ o. cond (turned o s).0 (scanned m cs (budget - (tests + 1)) (tests + 1) (turned o s).1) (outcome Full (tests + 1) (turned o s).1)) (first_none k s.place none)
      ∙ skips budget k (tests + 1) (at (s.place + 1) (s.skipped + 1) s.rows s.table) (omega arith) (omega arith) (other_none k s.place none)
      ∙ λ j. scanned m cs (budget - t j) (t j) (at (p j) (q j) s.rows s.table)
