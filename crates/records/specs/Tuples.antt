-- Tuples: a header of 14 bytes, a body, and a footer of 2 bytes; every number has its lowest byte first.
-- The header: 0 Sync (bytes 00 80), 2 SourceType, 4 SourceID, 6 DataType, 8 DataTime (4 bytes), 12 DataSize1, the size of the body.
-- The footer is DataSize2, the size again.
use Rattle.std.specs.Prelude.{ℕ, ◌+◌, ◌*◌, Bool, cond, ◌&&◌, List, length, Some, None, ◌==◌, nat_le, slice_index}
use Rattle.records.specs.declared.kind.Record.{Record}
use Rattle.records.specs.Grammars.{Grammar}

-- two bytes, and four, the lowest first
abbrev pub pair_at : List ℕ → ℕ → ℕ
pair_at bs i = slice_index bs i + 256 * slice_index bs (i + 1)

abbrev pub word_at : List ℕ → ℕ → ℕ
word_at bs i = pair_at bs i + 65536 * pair_at bs (i + 2)

-- the size of the body, by the header
abbrev pub size_of : List ℕ → ℕ
size_of bs = pair_at bs 12

-- Sync is 0x8000
abbrev pub sync_mark : List ℕ → Bool
sync_mark bs = slice_index bs 0 == 0 && slice_index bs 1 == 128

-- Sync is there, the body and the footer are all there, and the footer agrees with the header
abbrev pub is_tuple : List ℕ → Bool
is_tuple bs = sync_mark bs && (nat_le (size_of bs + 16) (length bs) && pair_at bs (size_of bs + 14) == size_of bs)

-- its tag is DataType
abbrev pub tuple_of : List ℕ → Record
tuple_of bs = record { length = size_of bs + 16; tag = pair_at bs 6; source_type = pair_at bs 2; source_id = pair_at bs 4; time = word_at bs 8 }

abbrev pub tuple : Grammar
tuple bs = cond (is_tuple bs) (Some (tuple_of bs)) None
