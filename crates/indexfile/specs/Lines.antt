-- Rows as text.
use Rattle.std.specs.Prelude.{ℕ, List, ◌++◌, codes, decimal}
use Rattle.indexfile.specs.declared.row.Row.{Row}

-- place, length, tag, source type, source ID and time
abbrev pub row_text : Row → List ℕ
row_text r =
    decimal r.place ++ (codes " " ++ (decimal r.length ++ (codes " " ++ (decimal r.tag ++ (codes " " ++ (decimal r.source_type ++ (codes " " ++ (decimal r.source_id ++ (codes " " ++ decimal r.time)))))))))
