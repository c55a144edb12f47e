-- Records as text.
use Rattle.std.specs.Prelude.{ℕ, List, ◌++◌, codes, decimal}
use Rattle.records.specs.declared.kind.Record.{Record}

-- length, tag, source type, source ID and time
abbrev pub record_text : Record → List ℕ
record_text r =
    decimal r.length ++ (codes " " ++ (decimal r.tag ++ (codes " " ++ (decimal r.source_type ++ (codes " " ++ (decimal r.source_id ++ (codes " " ++ decimal r.time)))))))
