-- The listing of a recording: its records from the front on, none that begins inside another.
use Rattle.std.specs.Prelude.{◌≡◌, ℕ, zero, suc, ◌+◌, ◌-◌, ◌<◌, ◌≤◌, Bool, true, false, ◌||◌, ltb, ◌↔◌, List, [], ◌∷◌, length, take, drop, Some, None, filter, Option, ◌==◌, nat_le, nat_lt}
use Rattle.std.specs.List.{AllByRecursion}
use Rattle.recording.specs.declared.Cell.{Cell}
use Rattle.records.specs.declared.kind.Record.{Record}
use Rattle.records.specs.Records.{Meaning}
use Rattle.indexfile.specs.declared.row.Row.{Row}
use Rattle.indexfile.specs.Files.{lengths}

-- the row of a record that stands at a place
abbrev pub row_at : ℕ → Record → Row
row_at p x = record { place = p; length = x.length; tag = x.tag; source_type = x.source_type; source_id = x.source_id; time = x.time }

-- the rows from a place on, in so many turns at the most: a record that stands is listed and left behind, any other cell is passed
unfoldable pub turns : Meaning → List Cell → ℕ → ℕ → List Row
turns m cs zero p = []
turns m cs (suc n) p = elim (nat_lt p (length cs)) [ false ↦ [] | true ↦ elim (m cs p) [ None ↦ turns m cs n (p + 1) | Some x ↦ row_at p x ∷ turns m cs n (p + x.length) ] ]

-- a turn passes a cell or more, so there are turns enough
abbrev pub listing_from : Meaning → List Cell → ℕ → List Row
listing_from m cs p = turns m cs (length cs) p

abbrev pub listing : Meaning → List Cell → List Row
listing m cs = listing_from m cs 0

-- where the listing goes on after a test: behind the record that stands at the place, or at the next cell
abbrev pub onward : ℕ → Option Record → ℕ
onward p None = p + 1
onward p (Some x) = p + x.length

-- the place after n tests
abbrev pub moved : Meaning → List Cell → ℕ → ℕ → ℕ
moved m cs zero p = p
moved m cs (suc n) p = moved m cs n (onward p (m cs p))

-- a boundary is clear when no standing record begins before it and ends after it
pub record Clear (m : Meaning) (cs : List Cell) (b : ℕ) : Type 0 where
  pub within : b ≤ length cs
  pub uncrossed : (p : ℕ) (x : Record) → m cs p ≡ Some x → p < b → p + x.length ≤ b

-- a record begins at p before the boundary and ends after it, and none that begins earlier does
pub record Crosses (m : Meaning) (cs : List Cell) (b p : ℕ) : Type 0 where
  pub begins : p < b
  pub ends : (x : Record) × (m cs p ≡ Some x) × (b < p + x.length)
  pub lowest : (q : ℕ) (x : Record) → m cs q ≡ Some x → q < p → q + x.length ≤ b

-- the rows that begin before a place, and those that begin there or later
abbrev pub ahead : ℕ → List Row → List Row
ahead b rows = filter (λ r. ltb r.place b) rows

abbrev pub behind : ℕ → List Row → List Row
behind b rows = filter (λ r. nat_le b r.place) rows

-- a row with its place counted from b
abbrev pub counted : ℕ → Row → Row
counted b r = record { place = r.place - b; length = r.length; tag = r.tag; source_type = r.source_type; source_id = r.source_id; time = r.time }

-- a row ends at the place or before it
abbrev pub EndsBy : ℕ → Row → Type 0
EndsBy p r = r.place + r.length ≤ p

-- whether a row begins at the place
abbrev pub listed_at : List Row → ℕ → Bool
listed_at [] p = false
listed_at (r ∷ rows) p = r.place == p || listed_at rows p

-- a member of a set of records begins before the place and covers its cell
abbrev pub Covered : Meaning → List Cell → (ℕ → Bool) → ℕ → Type 0
Covered m cs member p = (q : ℕ) × (x : Record) × (member q ≡ true) × (m cs q ≡ Some x) × (q < p) × (p < q + x.length)

-- a set of standing records, by their places, that leaves a standing record out exactly when a member covers its first cell
pub record Chooses (m : Meaning) (cs : List Cell) (member : ℕ → Bool) : Type 0 where
  pub stands : (p : ℕ) → member p ≡ true → (x : Record) × (m cs p ≡ Some x)
  pub left_out : (p : ℕ) (x : Record) → m cs p ≡ Some x → (member p ≡ false) ↔ Covered m cs member p

-- a row is that of the record that stands at its place
abbrev pub Standing : Meaning → List Cell → Row → Type 0
Standing m cs r = (x : Record) × (m cs r.place ≡ Some x) × (r ≡ row_at r.place x)

-- rows in the order of their places
abbrev pub Ascending : List Row → Type 0
Ascending [] = Unit {0}
Ascending (r ∷ rows) = AllByRecursion (λ s. r.place < s.place) rows × Ascending rows

-- rows of standing records, in order, which leave out exactly the records that one of them covers
pub record Tabulates (m : Meaning) (cs : List Cell) (rows : List Row) : Type 0 where
  pub made : AllByRecursion (Standing m cs) rows
  pub ordered : Ascending rows
  pub chosen : Chooses m cs (listed_at rows)

-- a reader along the listing that has come to a place, past so many rows and so many skipped cells: the rows are those that begin before
-- the place, none of them reaches past it, with the skipped cells they make up all that was passed, and the listing goes on from there
pub record Along (m : Meaning) (cs : List Cell) (place skipped rows : ℕ) : Type 0 where
  pub within : place ≤ length cs
  pub found : rows ≤ length (listing m cs)
  pub passed : take rows (listing m cs) ≡ ahead place (listing m cs)
  pub closed : AllByRecursion (EndsBy place) (take rows (listing m cs))
  pub sum : skipped + lengths (take rows (listing m cs)) ≡ place
  pub rest : drop rows (listing m cs) ≡ listing_from m cs place
