-- How far an index has come.
use Rattle.std.specs.Prelude.{ℕ, List, take}
use Rattle.indexfile.specs.declared.row.Row.{Row}

-- the place, the cells skipped, the rows held, and the table at whose front they are
pub record Progress : Type 0 where
  pub place : ℕ
  pub skipped : ℕ
  pub rows : ℕ
  pub table : List Row

abbrev pub at : ℕ → ℕ → ℕ → List Row → Progress
at p s r t = record { place = p; skipped = s; rows = r; table = t }

abbrev pub held : Progress → List Row
held s = take s.rows s.table
