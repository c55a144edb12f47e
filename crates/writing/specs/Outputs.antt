-- Tuples one behind the other, and their listing.
use Rattle.std.specs.Prelude.{◌≡◌, ℕ, ◌+◌, List, [], ◌∷◌, ◌++◌, length, Ok}
use Rattle.std.specs.List.{flat_map, AllByRecursion}
use Rattle.recording.specs.Cells.{plain}
use Rattle.records.specs.Grammars.{meaning}
use Rattle.records.specs.Tuples.{tuple}
use Rattle.indexfile.specs.declared.row.Row.{Row}
use Rattle.indexfile.specs.Files.{lengths}
use Rattle.listing.specs.Listing.{row_at, listing}
use Rattle.writing.specs.declared.header.Header.{Header}
use Rattle.writing.specs.Parts.{Parts, parts, record_of, Fits}
use Rattle.writing.specs.Written.{written}
use Rattle.writing.specs.Opened.{opened}

abbrev pub outputs : List Parts → List ℕ
outputs ps = flat_map (λ p. written p.header p.body) ps

-- the rows of tuples that stand one behind the other from a place on
abbrev pub rows_from : ℕ → List Parts → List Row
rows_from at [] = []
rows_from at (p ∷ ps) = row_at at (record_of p.header (length p.body)) ∷ rows_from (at + (length p.body + 16)) ps

-- the bytes are these tuples, and as a plain recording they list the row of each, in order, and leave no byte out
pub record Holds (ps : List Parts) (bs : List ℕ) : Type 0 where
  pub fit : AllByRecursion Fits ps
  pub bytes : bs ≡ outputs ps
  pub listed : listing (meaning tuple) (plain bs) ≡ rows_from 0 ps
  pub whole : lengths (listing (meaning tuple) (plain bs)) ≡ length bs

-- a tuple that was put can be opened again, and whatever tuples were there before, it stands behind them
pub record Adds (h : Header) (body before after : List ℕ) : Type 0 where
  pub again : opened (written h body) ≡ Ok (parts h body)
  pub behind : (ps : List Parts) → Holds ps before → Holds (ps ++ parts h body ∷ []) after
