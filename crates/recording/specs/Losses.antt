-- What is lost of a recording when a stretch is marked.
use Rattle.std.specs.Prelude.{◌≡◌, ℕ, ◌+◌, ◌<◌, ◌≤◌, ◌⊎◌, List, length, Ok, Err, Result}
use Rattle.recording.specs.declared.Cell.{Cell}
use Rattle.recording.specs.declared.Cell.TheVariants.{Lost}
use Rattle.recording.specs.declared.stretches.Stretch.{Stretch}
use Rattle.recording.specs.declared.stretches.MarkRefusal.{MarkRefusal}
use Rattle.recording.specs.Cells.{cell_at}

-- the cells of a stretch are lost, and no others
pub record Without (s : Stretch) (before after : List Cell) : Type 0 where
  pub length : length after ≡ length before
  pub inside : (k : ℕ) → s.first ≤ k → k < s.first + s.count → cell_at after k ≡ Ok Lost
  pub outside : (k : ℕ) → (k < s.first) ⊎ (s.first + s.count ≤ k) → cell_at after k ≡ cell_at before k

-- what a mark leaves of the recording: a refused one leaves it as it was
abbrev pub Loses : Stretch → List Cell → List Cell → Result (Unit {0}) MarkRefusal → Type 0
Loses s before after (Ok u) = Without s before after
Loses s before after (Err e) = after ≡ before
