-- Index files: which are sound, what is written, and what they say.
use Rattle.std.specs.Prelude.{ℕ, zero, suc, ◌+◌, ◌*◌, Bool, true, cond, ◌&&◌, List, [], ◌∷◌, ◌++◌, length, drop, Ok, Err, Result, ◌==◌, nat_le, nat_lt}
use Rattle.std.specs.List.{flat_map}
use Rattle.indexfile.specs.declared.counts.Counts.{Counts}
use Rattle.indexfile.specs.declared.refusal.WriteRefusal.{WriteRefusal}
use Rattle.indexfile.specs.declared.refusal.WriteRefusal.TheVariants.{UnsoundRows, ShortBuffer}
use Rattle.indexfile.specs.declared.row.Row.{Row}
use Rattle.indexfile.specs.Numbers.{number, bytes_of}

-- the lengths of all rows together
abbrev pub lengths : List Row → ℕ
lengths [] = 0
lengths (x ∷ rows) = x.length + lengths rows

-- no row is empty, begins before the end of the one before it, or ends after the place
abbrev pub in_order : ℕ → ℕ → List Row → Bool
in_order place end [] = true
in_order place end (x ∷ rows) = nat_lt 0 x.length && (nat_le end x.place && (nat_le (x.place + x.length) place && in_order place (x.place + x.length) rows))

-- rows in order, that with the skipped cells make up the place
abbrev pub sound_rows : ℕ → ℕ → List Row → Bool
sound_rows place skipped rows = in_order place 0 rows && place == skipped + lengths rows

-- the 20 bytes of a row
abbrev pub row_bytes : Row → List ℕ
row_bytes x = bytes_of 4 x.place ++ (bytes_of 4 x.length ++ (bytes_of 4 x.tag ++ (bytes_of 2 x.source_type ++ (bytes_of 2 x.source_id ++ bytes_of 4 x.time))))

-- the 16 bytes of a header: the rows begin behind it
abbrev pub head_bytes : ℕ → ℕ → ℕ → List ℕ
head_bytes count place skipped = bytes_of 4 count ++ (bytes_of 4 16 ++ (bytes_of 4 place ++ bytes_of 4 skipped))

-- the file of a place, the cells skipped and the rows
unfoldable pub file_of : ℕ → ℕ → List Row → List ℕ
file_of place skipped rows = head_bytes (length rows) place skipped ++ flat_map row_bytes rows

-- the answer to a write, and the buffer afterwards
abbrev pub writing : ℕ → ℕ → List Row → List ℕ → Result ℕ WriteRefusal × List ℕ
writing place skipped rows buffer =
    cond (nat_le (length rows) 65536 && sound_rows place skipped rows)
    (cond (nat_le (16 + 20 * length rows) (length buffer)) (Ok (16 + 20 * length rows), file_of place skipped rows ++ drop (16 + 20 * length rows) buffer) (Err ShortBuffer, buffer))
    (Err UnsoundRows, buffer)

-- what the header counts
abbrev pub counts_in : List ℕ → Counts
counts_in bs = record { rows = number bs 0 4; place = number bs 8 4; skipped = number bs 12 4 }

-- the row in 20 bytes
abbrev pub row_of : List ℕ → Row
row_of bs = record { place = number bs 0 4; length = number bs 4 4; tag = number bs 8 4; source_type = number bs 12 2; source_id = number bs 14 2; time = number bs 16 4 }

-- row n of a file
abbrev pub row_in : List ℕ → ℕ → Row
row_in bs n = row_of (drop (16 + 20 * n) bs)

-- so many rows, one behind the other
abbrev pub rows_of : ℕ → List ℕ → List Row
rows_of zero bs = []
rows_of (suc n) bs = row_of bs ∷ rows_of n (drop 20 bs)

-- all rows of a file
abbrev pub rows_in : List ℕ → List Row
rows_in bs = rows_of (number bs 0 4) (drop 16 bs)

-- a header, and the bytes of as many rows as it counts
abbrev pub shaped : List ℕ → Bool
shaped bs = nat_le 16 (length bs) && (number bs 4 4 == 16 && (nat_le (number bs 0 4) 65536 && length bs == 16 + 20 * number bs 0 4))

-- a file of that shape, with sound rows
abbrev pub sound_file : List ℕ → Bool
sound_file bs = shaped bs && sound_rows (number bs 8 4) (number bs 12 4) (rows_in bs)
