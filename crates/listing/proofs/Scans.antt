-- The turns of a scan.
use Rattle.std.proofs.Common.{◌≡◌, ℕ, zero, suc, ◌+◌, ◌-◌, ◌<◌, ◌≤◌, cond, List, length, arith, le-leb}
use borrow.Author.Tests.{lt-leb}
use Rattle.recording.specs.declared.Cell.{Cell}
use Rattle.records.specs.Records.{Meaning}
use Rattle.listing.specs.declared.answer.Stop.TheVariants.{Ended, Spent, Full}
use Rattle.listing.specs.Progress.{Progress}
use Rattle.listing.specs.Scanning.{turned, outcome, scanned}
use Rattle.std.proofs.lemmas.Grind.{common_steps}

module _ (m : Meaning) (cs : List Cell) where
  pub ended : (n k : ℕ) (s : Progress) → length cs ≤ s.place → scanned m cs n k s ≡ outcome Ended k s
  unfolding scanned
  ended zero k s h = rw (le-leb (length cs) s.place h)
  ended (suc n) k s h = rw (le-leb (length cs) s.place h)

  pub spent : (n k : ℕ) (s : Progress) → n ≡ 0 → s.place < length cs → scanned m cs n k s ≡ outcome Spent k s
  unfolding scanned
  spent zero k s z h = rw (lt-leb (length cs) s.place h)
  spent (suc n) k s z h = absurd (omega arith)

  -- one turn more, with k of n tests made
  pub turn_more : (n k : ℕ) (s : Progress) → k < n → s.place < length cs → scanned m cs (n - k) k s ≡ cond (turned (m cs s.place) s).0 (scanned m cs (n - (k + 1)) (k + 1) (turned (m cs s.place) s).1) (outcome Full (k + 1) (turned (m cs s.place) s).1)
  unfolding scanned
  turn_more n k s lt h = grind (arith, common_steps)
