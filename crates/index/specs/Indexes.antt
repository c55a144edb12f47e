-- An index with its table: the recording that it is of, what its kind says there, and how far it has come.
use Rattle.std.specs.Prelude.{ℕ, List, Option}
use Rattle.recording.specs.declared.Cell.{Cell}
use Rattle.recording.specs.declared.Store.{Ghosts as StoreGhosts}
use Rattle.records.specs.declared.kind.RecordKind.{Ghosts as KindGhosts}
use Rattle.records.specs.declared.kind.Record.{Record}
use Rattle.records.specs.Records.{Meaning}
use Rattle.listing.specs.Progress.{Progress, at}
use Rattle.index.specs.declared.Index.{Index}
use Rattle.indexfile.specs.declared.row.Row.{Row}

abbrev pub Stores : Type 0 → Type 1
Stores S = StoreGhosts S

abbrev pub Kinds : Type 0 → Type 1
Kinds K = KindGhosts K

abbrev pub cells_of : {S K : Type 0} {k : Kinds K} (s : Stores S) → Index S K s k → List Cell
cells_of s x = s.cells x.store

abbrev pub meaning_of : {S K : Type 0} {s : Stores S} (k : Kinds K) → Index S K s k → Meaning
meaning_of k x = k.stands x.kind

-- the record that stands at a place of the recording
abbrev pub stands_at : {S K : Type 0} (s : Stores S) (k : Kinds K) → Index S K s k → ℕ → Option Record
stands_at s k x p = meaning_of k x (cells_of s x) p

-- how far the index has come, with its table
abbrev pub progress : {S K : Type 0} {s : Stores S} {k : Kinds K} → Index S K s k → List Row → Progress
progress x table = at x.counts.place x.counts.skipped x.counts.rows table
