-- A grammar knows a record by the run of bytes that begins at its place.
use Rattle.std.specs.Prelude.{ℕ, ◌+◌, ◌*◌, ◌%◌, List, [], ◌∷◌, drop, Some, None, Ok, Err, Option, Result}
use Rattle.recording.specs.declared.Cell.{Cell}
use Rattle.recording.specs.declared.Cell.TheVariants.{Byte, Lost}
use Rattle.recording.specs.declared.PastEnd.{PastEnd}
use Rattle.records.specs.declared.kind.Record.{Record}
use Rattle.records.specs.Records.{Meaning}

-- the bytes before the first lost cell; a byte is a number below 256
abbrev pub bytes_of : List Cell → List ℕ
bytes_of [] = []
bytes_of (Byte b ∷ cs) = b % 256 ∷ bytes_of cs
bytes_of (Lost ∷ cs) = []

-- the bytes from a place up to the next lost cell, or to the end
abbrev pub bytes_from : List Cell → ℕ → List ℕ
bytes_from cs p = bytes_of (drop p cs)

-- what a record kind finds at the front of a run of bytes
abbrev pub Grammar : Type 0
Grammar = List ℕ → Option Record

abbrev pub meaning : Grammar → Meaning
meaning g cs p = g (bytes_from cs p)

-- the first byte, and the first two as a number, the lowest first
abbrev pub first : List ℕ → Option ℕ
first [] = None
first (b ∷ bs) = Some b

abbrev pub first_two : List ℕ → Option ℕ
first_two [] = None
first_two (a ∷ []) = None
first_two (a ∷ b ∷ bs) = Some (a + 256 * b)

-- the byte that a cell holds
abbrev pub held : Result Cell PastEnd → Option ℕ
held (Ok (Byte b)) = Some (b % 256)
held (Ok Lost) = None
held (Err e) = None
