-- A tuple taken apart.
use Rattle.std.specs.Prelude.{ℕ, ◌-◌, cond, List, length, take, drop, Some, None, Ok, Err, Option, Result, ◌==◌}
use Rattle.records.specs.declared.kind.Record.{Record}
use Rattle.records.specs.Tuples.{tuple}
use Rattle.writing.specs.declared.refusal.NotOneTuple.{NotOneTuple}
use Rattle.writing.specs.declared.tuple.Tuple.{Tuple}
use Rattle.writing.specs.Parts.{Parts}

-- what a tuple that was opened holds
abbrev pub parts_of : Tuple → Parts
parts_of t = record { header = t.header; body = t.body.now }

-- a record that takes up all of the bytes
abbrev pub apart : List ℕ → Option Record → Result Parts NotOneTuple
apart bs None = Err (record {})
apart bs (Some x) =
    cond (x.length == length bs)
    (Ok (record { header = record { source_type = x.source_type; source_id = x.source_id; data_type = x.tag; time = x.time }; body = take (x.length - 16) (drop 14 bs) }))
    (Err (record {}))

abbrev pub opened : List ℕ → Result Parts NotOneTuple
opened bs = apart bs (tuple bs)
