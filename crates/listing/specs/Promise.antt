-- The promise: what holds of every recording and every record kind that keeps its laws, whatever calls an index is visited by.
use Rattle.std.specs.Prelude.{◌≡◌, ℕ, ◌+◌, ◌-◌, ◌*◌, ◌<◌, ◌≤◌, min, Bool, false, cond, ◌⊎◌, ◌↔◌, List, ◌++◌, map, length, take, drop, Some, Ok, Err, nat_le, nat_lt, slice_index_or}
use Rattle.std.specs.List.{AllByRecursion}
use Rattle.recording.specs.declared.Cell.{Cell}
use Rattle.recording.specs.declared.Cell.TheVariants.{Lost}
use Rattle.refusals.specs.Notices.{nowhere}
use Rattle.records.specs.declared.kind.Record.{Record}
use Rattle.records.specs.Records.{Meaning}
use Rattle.indexfile.specs.declared.row.Row.{Row}
use Rattle.listing.specs.declared.answer.Stop.{Stop}
use Rattle.listing.specs.declared.answer.Stop.TheVariants.{Ended, Spent, Full}
use Rattle.listing.specs.declared.answer.Scanned.{Scanned}
use Rattle.listing.specs.declared.answer.ScanRefusal.{ScanRefusal}
use Rattle.listing.specs.declared.answer.ClearRefusal.{ClearRefusal}
use Rattle.listing.specs.declared.answer.FetchRefusal.TheVariants as fetch
use Rattle.listing.specs.declared.answer.SettleRefusal.TheVariants as settle
use Rattle.listing.specs.declared.answer.SaveRefusal.TheVariants as save
use Rattle.indexfile.specs.declared.refusal.WriteRefusal.TheVariants as write
use Rattle.listing.specs.declared.answer.Visit.{Visit}
use Rattle.std.specs.Option.{ok_or}
use Rattle.std.specs.Result.{result_map_both}
use Rattle.bodies.specs.Judge.{needs_settings}
use Rattle.listing.specs.Refusals.{scan_refusal, clear_refusal}
use Rattle.indexfile.specs.Written.{no_row}
use Rattle.indexfile.specs.Files.{lengths, file_of}
use Rattle.listing.specs.Listing.{listing, moved, EndsBy, Clear, ahead, behind, counted, listed_at, Chooses, Tabulates, Along}
use Rattle.listing.specs.Progress.{Progress, held}
use Rattle.listing.specs.Scanning.{scanning}
use Rattle.listing.specs.Clearing.{clearing, Tells}
use Rattle.listing.specs.Fetching.{row_of, filled, fetching}
use Rattle.listing.specs.Settling.{governing, settled, settling, in_row, judged, inspecting, unnumbered}
use Rattle.listing.specs.Saving.{saving}
use Rattle.listing.specs.Visits.{visited, unused}

-- what holds where a scan stopped: it is at the end; or before it, with all its tests made; or at a record, with no row free
abbrev pub Why : Meaning → List Cell → ℕ → ℕ → Progress → Stop → Type 0
Why m cs budget tests t Ended = t.place ≡ length cs
Why m cs budget tests t Spent = (t.place < length cs) × (tests ≡ budget)
Why m cs budget tests t Full = (t.rows ≡ min (length t.table) 65536) × ((x : Record) × (m cs t.place ≡ Some x))

-- the one test that neither skips a cell nor adds a row
abbrev pub extra : Stop → ℕ
extra Ended = 0
extra Spent = 0
extra Full = 1

-- a welcome scan from s to t goes along the listing: each test but that of `Full` moves the place as the listing does, skips a cell or adds
-- the listing's next row, and nothing else is written
pub record Goes (m : Meaning) (cs : List Cell) (budget : ℕ) (s : Progress) (a : Scanned) (t : Progress) : Type 0 where
  pub along : Along m cs t.place t.skipped t.rows
  pub moves : t.place ≡ moved m cs (a.tests - extra a.stop) s.place
  pub rows : t.rows ≡ s.rows + a.added
  pub table : t.table ≡ take t.rows (listing m cs) ++ drop t.rows s.table
  pub tests : s.skipped + a.tests ≡ t.skipped + a.added + extra a.stop
  pub spare : a.tests ≤ budget
  pub why : Why m cs budget a.tests t a.stop

-- the listing's row of a number, and the rows that are listed before it
abbrev pub listed : Meaning → List Cell → ℕ → Row
listed m cs n = slice_index_or (listing m cs) n no_row

abbrev pub earlier : Meaning → List Cell → ℕ → List Row
earlier m cs n = ahead (listed m cs n).place (listing m cs)

-- what holds of the calls that name a row, in an index that holds it: they speak of the listing's row of that number
pub record Holds (m : Meaning) (cs : List Cell) (s : Progress) (n : ℕ) : Type 0 where
  -- a fetch hands out the bytes of the listing's row, if the buffer has room
  pub fetches : (buffer : List ℕ) → fetching m cs n buffer s ≡ filled cs (listed m cs n) buffer
  -- a settle looks to the last row listed before it that is settings of its head
  pub settles : settling m cs n s ≡ ok_or (settled m cs (earlier m cs n) (listed m cs n)) settle.NoSettings
  -- an inspection fetches, settles and judges
  pub inspects : (buffer : List ℕ) → inspecting m cs n buffer s ≡ (result_map_both (λ k. in_row n (judged m cs (earlier m cs n) (listed m cs n))) (λ e. e) (filled cs (listed m cs n) buffer).0, (filled cs (listed m cs n) buffer).1)

-- and in one that does not hold it: all three are refused, and nothing changes
pub record Lacks (m : Meaning) (cs : List Cell) (s : Progress) (n : ℕ) : Type 0 where
  pub fetches : (buffer : List ℕ) → fetching m cs n buffer s ≡ (Err fetch.RowNotHeld, buffer)
  pub settles : settling m cs n s ≡ Err settle.RowNotHeld
  pub inspects : (buffer : List ℕ) → inspecting m cs n buffer s ≡ (Err fetch.RowNotHeld, buffer)

-- what holds of an index after any visits, with a table that was once as it is given
pub record Used (m : Meaning) (cs : List Cell) (table : List Row) (s : Progress) : Type 0 where
  -- the rows held are those of the listing that begin before the place, and none of them reaches past it
  pub rows : held s ≡ ahead s.place (listing m cs)
  pub closed : AllByRecursion (EndsBy s.place) (held s)
  pub others : drop s.rows s.table ≡ drop s.rows table
  pub size : length s.table ≡ length table
  pub within : s.place ≤ length cs
  pub sum : s.place ≡ s.skipped + lengths (held s)
  pub few : s.skipped + s.rows ≤ s.place
  pub room : s.rows ≤ length s.table
  -- a scan is refused for its budget alone, and then changes nothing; a welcome one goes along the listing
  pub scans : (budget : ℕ) → 1 ≤ budget → budget ≤ 65536 → (a : Scanned) × ((scanning m cs budget s).0 ≡ Ok a) × Goes m cs budget s a (scanning m cs budget s).1
  pub no_scan : (budget : ℕ) → (budget ≡ 0) ⊎ (65536 < budget) → (e : ScanRefusal) × (scanning m cs budget s ≡ (Err e, s)) × (scan_refusal e ≡ nowhere 1)
  -- a clear is refused past the end alone; else it names no place exactly at a clear boundary, and the lowest of a record that crosses any other
  pub clears : (b : ℕ) → Tells m cs b s (clearing m cs b s)
  pub no_clear : (b : ℕ) → length cs < b → (e : ClearRefusal) × (clearing m cs b s ≡ Err e) × (clear_refusal e ≡ nowhere 2)
  -- a row that is held is the listing's, and no call finds it amiss
  pub holds : (n : ℕ) → n < s.rows → Holds m cs s n
  pub lacks : (n : ℕ) → s.rows ≤ n → Lacks m cs s n
  -- a save is refused for its buffer alone, and writes the file of exactly these rows
  pub saves : (buffer : List ℕ) → saving buffer s
      ≡ cond (nat_le (16 + 20 * s.rows) (length buffer)) (Ok (16 + 20 * s.rows), file_of s.place s.skipped (ahead s.place (listing m cs)) ++ drop (16 + 20 * s.rows) buffer)
      (Err (save.Unwritten write.ShortBuffer), buffer)

-- a tuple needs no settings, or those that govern it begin at the boundary or later
abbrev pub SettledBehind : Meaning → List Cell → ℕ → Progress → ℕ → Type 0
SettledBehind m cs b s n = (needs_settings (row_of s n).tag ≡ false) ⊎ ((x : Row) × (governing m cs (take n s.table) (row_of s n) ≡ Some x) × (b ≤ x.place))

-- two rows, of two indexes, settle and inspect alike: the same answers and refusals, row numbers aside, and for equal buffers equal buffers afterwards
pub record Alike (m : Meaning) (cs ds : List Cell) (s t : Progress) (n k : ℕ) : Type 0 where
  pub settle : settling m cs n s ≡ settling m ds k t
  pub inspect : (buffer : List ℕ) → unnumbered (inspecting m cs n buffer s).0 ≡ unnumbered (inspecting m ds k buffer t).0
  pub buffer : (buffer : List ℕ) → (inspecting m cs n buffer s).1 ≡ (inspecting m ds k buffer t).1

-- the cell i places before a boundary; one that does not exist is lost
abbrev pub before : List Cell → ℕ → ℕ → Cell
before cs b i = cond (nat_lt b i) Lost (slice_index_or cs (b - i) Lost)

-- for a recording, a record kind's meaning in it, and the cells of the kind's longest record
pub record Promise (M : ℕ) (m : Meaning) (cs : List Cell) : Type 0 where
  -- an index that was visited by any list of calls holds the rows of the listing up to its place
  pub used : (table : List Row) (vs : List Visit) → Used m cs table (visited m cs vs (unused table))
  -- recordings that are the same behind clear boundaries have the same rows there, whatever stands ahead
  pub same_rows : (ds : List Cell) (b c : ℕ) → Clear m cs b → Clear m ds c → drop b cs ≡ drop c ds → map (counted b) (behind b (listing m cs)) ≡ map (counted c) (behind c (listing m ds))
  -- and what lies there settles and inspects alike, whatever visits each index had, once both hold it
  pub alike : (ds : List Cell) (b c : ℕ) → Clear m cs b → Clear m ds c → drop b cs ≡ drop c ds
      → (table other : List Row) (vs ws : List Visit) → let s = visited m cs vs (unused table) in let t = visited m ds ws (unused other) in
      (n k d : ℕ) → n < s.rows → k < t.rows → (row_of s n).place ≡ b + d → (row_of t k).place ≡ c + d → SettledBehind m cs b s n → Alike m cs ds s t n k
  -- whether a boundary is clear depends on the cells behind it and on the M - 1 right before it
  pub both_clear : (ds : List Cell) (b c : ℕ) → b ≤ length cs → c ≤ length ds → drop b cs ≡ drop c ds
      → ((i : ℕ) → 1 ≤ i → i ≤ M - 1 → before cs b i ≡ before ds c i) → Clear m cs b ↔ Clear m ds c
  -- of all sets of standing records the listing's alone leaves a record out exactly when a member covers its first cell
  pub chosen : (member : ℕ → Bool) → Chooses m cs member ↔ ((p : ℕ) → member p ≡ listed_at (listing m cs) p)
  -- and of all tables the listing alone has the rows of such a set, in order
  pub only : (rows : List Row) → Tabulates m cs rows ↔ (rows ≡ listing m cs)
