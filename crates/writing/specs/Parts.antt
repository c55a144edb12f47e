-- A header and a body, and the record that they make.
use Rattle.std.specs.Prelude.{ℕ, ◌+◌, ◌<◌, ◌≤◌, List, length}
use Rattle.records.specs.declared.kind.Record.{Record}
use Rattle.writing.specs.declared.header.Header.{Header}

pub record Parts : Type 0 where
  pub header : Header
  pub body : List ℕ

abbrev pub parts : Header → List ℕ → Parts
parts h body = record { header = h; body = body }

-- the five numbers of a tuple with a body of n bytes
abbrev pub record_of : Header → ℕ → Record
record_of h n = record { length = n + 16; tag = h.data_type; source_type = h.source_type; source_id = h.source_id; time = h.time }

-- numbers that fit their places in a header
pub record Wide (h : Header) : Type 0 where
  pub type : h.source_type < 65536
  pub id : h.source_id < 65536
  pub data_type : h.data_type < 65536
  pub time : h.time < 4294967296

-- a header and a body that make a tuple
abbrev pub Fits : Parts → Type 0
Fits p = Wide p.header × (length p.body ≤ 65535)
