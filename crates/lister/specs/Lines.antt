-- The lines of a listing.
use Rattle.std.specs.Prelude.{ℕ, List, ◌++◌, codes, decimal}
use Rattle.refusals.specs.declared.Notice.{Notice}
use Rattle.refusals.specs.Notices.{notice_text}
use Rattle.indexfile.specs.declared.counts.Counts.{Counts}

-- the place reached, the cells skipped and the number of rows
abbrev pub end_text : Counts → List ℕ
end_text c = codes "end " ++ (decimal c.place ++ (codes " skipped " ++ (decimal c.skipped ++ (codes " rows " ++ decimal c.rows))))

-- the number of a refusal and its place
abbrev pub refusal_text : Notice → List ℕ
refusal_text n = codes "refused " ++ notice_text n
