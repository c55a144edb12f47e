-- Saving the rows held, with the place and the cells skipped.
use Rattle.std.specs.Prelude.{ℕ, cond, List, length, Err, Result, nat_lt}
use Rattle.std.specs.Result.{result_map_both}
use Rattle.indexfile.specs.declared.refusal.WriteRefusal.{WriteRefusal}
use Rattle.indexfile.specs.Files.{writing}
use Rattle.listing.specs.declared.answer.SaveRefusal.{SaveRefusal}
use Rattle.listing.specs.declared.answer.SaveRefusal.TheVariants.{ShortTable, Unwritten}
use Rattle.listing.specs.Progress.{Progress, held}

-- a file's writing, its refusal told of more
abbrev pub saved : Result ℕ WriteRefusal × List ℕ → Result ℕ SaveRefusal × List ℕ
saved w = (result_map_both (λ n. n) Unwritten w.0, w.1)

-- a call: refused, or the file in the buffer's front
abbrev pub saving : List ℕ → Progress → Result ℕ SaveRefusal × List ℕ
saving buffer s = cond (nat_lt (length s.table) s.rows) (Err ShortTable, buffer) (saved (writing s.place s.skipped (held s) buffer))
