-- What a record kind means, and its three laws.
use Rattle.std.specs.Prelude.{◌≡◌, ℕ, ◌+◌, ◌<◌, ◌≤◌, List, length, take, drop, Some, None, Option, slice_index_or}
use Rattle.recording.specs.declared.Cell.{Cell}
use Rattle.recording.specs.declared.Cell.TheVariants.{Byte, Lost}
use Rattle.recording.specs.Cells.{Stand}
use Rattle.records.specs.declared.kind.Record.{Record}

-- for each recording and place: nothing, or the five numbers of the record that stands there
abbrev pub Meaning : Type 0
Meaning = List Cell → ℕ → Option Record

-- the run of n cells at a place
abbrev pub run : List Cell → ℕ → ℕ → List Cell
run cs p n = take n (drop p cs)

-- wherever the bytes stand, no record begins at the first n of their places
abbrev pub Vacant : Meaning → List ℕ → ℕ → Type 0
Vacant stands bs n = (cs : List Cell) (p : ℕ) → Stand cs p bs → (k : ℕ) → k < n → stands cs (p + k) ≡ None

pub record Laws (M : ℕ) (stands : Meaning) : Type 0 where
  -- a standing record has 1 to M cells, all inside the recording
  pub inside : (cs : List Cell) (p : ℕ) (x : Record) → stands cs p ≡ Some x → (1 ≤ x.length) × (x.length ≤ M) × (p + x.length ≤ length cs)
  -- all its cells are bytes
  pub bytes : (cs : List Cell) (p : ℕ) (x : Record) → stands cs p ≡ Some x → (i : ℕ) → i < x.length → (b : ℕ) × (slice_index_or cs (p + i) Lost ≡ Byte b)
  -- where the same run of bytes occurs, in any recording and at any place, the same record stands
  pub moves : (cs : List Cell) (p : ℕ) (x : Record) → stands cs p ≡ Some x → (ds : List Cell) (q : ℕ) → run ds q x.length ≡ run cs p x.length → stands ds q ≡ Some x
