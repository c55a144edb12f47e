-- What is read of an index file, or why it is refused.
use Rattle.std.specs.Prelude.{ℕ, ◌+◌, ◌*◌, cond, List, length, Ok, Err, Result, nat_le, nat_lt}
use Rattle.indexfile.specs.declared.refusal.ReadRefusal.{ReadRefusal}
use Rattle.indexfile.specs.declared.refusal.ReadRefusal.TheVariants.{Unsound, RowNotHeld}
use Rattle.indexfile.specs.declared.row.Row.{Row}
use Rattle.indexfile.specs.Files.{row_in, sound_file}
use Rattle.indexfile.specs.Numbers.{number}

-- the answer, if the file is sound
abbrev pub reading : {X : Type 0} → List ℕ → Result X ReadRefusal → Result X ReadRefusal
reading bs answer = cond (sound_file bs) answer (Err Unsound)

-- a row that the file counts
abbrev pub held_row : List ℕ → ℕ → Result Row ReadRefusal
held_row bs n = cond (nat_lt n (number bs 0 4)) (Ok (row_in bs n)) (Err RowNotHeld)

-- a row that the bytes reach to the end of: in a sound file, one that it counts
abbrev pub reached_row : List ℕ → ℕ → Result Row ReadRefusal
reached_row bs n = cond (nat_le (36 + 20 * n) (length bs)) (Ok (row_in bs n)) (Err RowNotHeld)
