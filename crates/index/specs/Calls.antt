-- What the calls of an index leave.
use Rattle.std.specs.Prelude.{◌≡◌, ℕ, ◌+◌, ◌<◌, ◌≤◌, Bool, List, length, None, Result}
use Rattle.indexfile.specs.declared.row.Row.{Row}
use Rattle.listing.specs.declared.answer.Stop.{Stop}
use Rattle.listing.specs.declared.answer.Scanned.{Scanned}
use Rattle.listing.specs.declared.answer.ScanRefusal.{ScanRefusal}
use Rattle.listing.specs.declared.answer.Call.{Call}
use Rattle.listing.specs.declared.answer.Answer.{Answer}
use Rattle.listing.specs.declared.answer.Visit.{Visit}
use Rattle.listing.specs.Progress.{at}
use Rattle.listing.specs.Scanning.{turned, outcome, scanned, scanning}
use Rattle.listing.specs.Visits.{after, called, visited, answered, buffered, unused}
use Rattle.listing.specs.Promise.{Used}
use Rattle.index.specs.declared.Index.{Index}
use Rattle.index.specs.Indexes.{Stores, Kinds, cells_of, meaning_of, stands_at, progress}

-- an index and its table after one turn, after cells at which nothing stands, after a run of turns, and after a scan: over the same store and kind
pub record Turn {S K : Type 0} (s : Stores S) (k : Kinds K) (x : Index S K s k) (table : List Row) (r : Bool) (y : Index S K s k) (after : List Row) : Type 0 where
  pub store : y.store ≡ x.store
  pub kind : y.kind ≡ x.kind
  pub grows : x.counts.rows ≤ y.counts.rows
  pub went : r ≡ (turned (stands_at s k x x.counts.place) (progress x table)).0
  pub left : progress y after ≡ (turned (stands_at s k x x.counts.place) (progress x table)).1

pub record Pass {S K : Type 0} (s : Stores S) (k : Kinds K) (most : ℕ) (x : Index S K s k) (n : ℕ) (y : Index S K s k) : Type 0 where
  pub store : y.store ≡ x.store
  pub kind : y.kind ≡ x.kind
  pub few : n ≤ most
  pub within : x.counts.place + n ≤ length (cells_of s x)
  pub none : (i : ℕ) → i < n → stands_at s k x (x.counts.place + i) ≡ None
  pub left : (table : List Row) → progress y table ≡ at (x.counts.place + n) (x.counts.skipped + n) x.counts.rows table

pub record Turns {S K : Type 0} (s : Stores S) (k : Kinds K) (budget : ℕ) (x : Index S K s k) (table : List Row) (stop : Stop) (tests : ℕ) (y : Index S K s k) (after : List Row) : Type 0 where
  pub store : y.store ≡ x.store
  pub kind : y.kind ≡ x.kind
  pub grows : x.counts.rows ≤ y.counts.rows
  pub run : outcome stop tests (progress y after) ≡ scanned (meaning_of k x) (cells_of s x) budget 0 (progress x table)

pub record Scan {S K : Type 0} (s : Stores S) (k : Kinds K) (budget : ℕ) (x : Index S K s k) (table : List Row) (r : Result Scanned ScanRefusal) (y : Index S K s k) (after : List Row) : Type 0 where
  pub store : y.store ≡ x.store
  pub kind : y.kind ≡ x.kind
  pub answer : r ≡ (scanning (meaning_of k x) (cells_of s x) budget (progress x table)).0
  pub left : progress y after ≡ (scanning (meaning_of k x) (cells_of s x) budget (progress x table)).1

-- a call, with all that it leaves
pub record Made {S K : Type 0} (s : Stores S) (k : Kinds K) (c : Call) (x : Index S K s k) (table : List Row) (buffer : List ℕ) (r : Answer) (y : Index S K s k) (left : List Row) (filled : List ℕ) : Type 0 where
  pub store : y.store ≡ x.store
  pub kind : y.kind ≡ x.kind
  pub answer : (r, filled) ≡ called (meaning_of k x) (cells_of s x) c buffer (progress x table)
  pub moved : progress y left ≡ after (meaning_of k x) (cells_of s x) c (progress x table)

-- all calls of a list of visits, with all that they leave
pub record Ran {S K : Type 0} (s : Stores S) (k : Kinds K) (vs : List Visit) (x : Index S K s k) (table : List Row) (buffer : List ℕ) (noted : List Visit) (y : Index S K s k) (left : List Row) (filled : List ℕ) : Type 0 where
  pub store : y.store ≡ x.store
  pub kind : y.kind ≡ x.kind
  pub answers : noted ≡ answered (meaning_of k x) (cells_of s x) vs buffer (progress x table)
  pub bytes : filled ≡ buffered (meaning_of k x) (cells_of s x) vs buffer (progress x table)
  pub moved : progress y left ≡ visited (meaning_of k x) (cells_of s x) vs (progress x table)

-- an index that was opened with a table as it is given, and visited by some list of calls
abbrev pub Opened : {S K : Type 0} (s : Stores S) (k : Kinds K) → List Row → Index S K s k → List Row → Type 0
Opened s k start x table = (vs : List Visit) × (progress x table ≡ visited (meaning_of k x) (cells_of s x) vs (unused start))

-- so it is after more of them, and all that is promised after visits holds of it
pub record Serves {S K : Type 0} (s : Stores S) (k : Kinds K) (start : List Row) (y : Index S K s k) (left : List Row) : Type 0 where
  pub opened : Opened s k start y left
  pub used : Used (meaning_of k y) (cells_of s y) start (progress y left)
