use Rattle.std.proofs.Common.{rules}
use Rattle.writing.proofs.Openings.{Read, rewritten}
use Rattle.writing.proofs.tuple.open.Goals as goal

pub returns-clause-law : goal.returns-clause-law
returns-clause-law c =
    let bs = c.args.bytes.now in
    let n = c.from_le_bytes-size.result in
    let f = c.from_le_bytes.result in
    let read : Read bs (record { source_type = c.from_le_bytes-2.result; source_id = c.from_le_bytes-3.result; data_type = c.from_le_bytes-4.result; time = c.from_le_bytes-5.result }) n f = record {
      first_sync = search rules;
      last_sync = search rules;
      type = search rules;
      id = search rules;
      data_type = search rules;
      time = search rules;
      size = c.from_le_bytes-size.ensures;
      long = search rules;
      foot = c.from_le_bytes.ensures;
      agreed = c.if-from_le_bytes-size.false;
    } in
    rewritten bs _ n f (λ i. (c.type_inv.bytes i).fits) read
