-- What is seen of an index file.
use Rattle.std.specs.Prelude.{ℕ, List}
use Rattle.indexfile.specs.declared.counts.Counts.{Counts}
use Rattle.indexfile.specs.declared.file.IndexFile.{IndexFile}

-- the bytes and the counts of a file that was read
abbrev pub seen : IndexFile → List ℕ × Counts
seen f = (f.bytes.now, f.counts)
