use Rattle.std.proofs.Common.{◌≡◌, ◌+◌, ◌*◌, Some, refl, sym, ◌∙◌, arith}
use Rattle.std.proofs.lemmas.Grind.{or_after_shift}
use Rattle.records.proofs.TupleTests.{unread, read}
use Rattle.records.proofs.tuples.tuple_at.Goals as goal

pub returns-in_err-source_type : goal.returns-in_err-source_type
returns-in_err-source_type g c = c.from_residual-in_err-source_type.ensures ∙ unread (g.S.Store.cells c.args.store.now) c.args.at 2 (omega arith) (sym c.in_err-source_type.ensures)

pub returns-in_err-source_id : goal.returns-in_err-source_id
returns-in_err-source_id g c = c.from_residual-in_err-source_id.ensures ∙ unread (g.S.Store.cells c.args.store.now) c.args.at 4 (omega arith) (sym c.in_err-source_id.ensures)

pub returns-in_err-data_type : goal.returns-in_err-data_type
returns-in_err-data_type g c = c.from_residual-in_err-data_type.ensures ∙ unread (g.S.Store.cells c.args.store.now) c.args.at 6 (omega arith) (sym c.in_err-data_type.ensures)

pub returns-in_err-low_time : goal.returns-in_err-low_time
returns-in_err-low_time g c = c.from_residual-in_err-low_time.ensures ∙ unread (g.S.Store.cells c.args.store.now) c.args.at 8 (omega arith) (sym c.in_err-low_time.ensures)

pub returns-in_err-high_time : goal.returns-in_err-high_time
returns-in_err-high_time g c = c.from_residual-in_err-high_time.ensures ∙ unread (g.S.Store.cells c.args.store.now) c.args.at 10 (omega arith) (sym c.in_err-high_time.ensures)

pub returns : goal.returns
returns g c =
    let tag : c.from.result ≡ c.in_ok-data_type.data_type = omega arith in
    let joined = or_after_shift c.from-2.result 65536 4294967296 c.from-3.result refl (omega arith) (omega arith) in
    let swapped : c.from-2.result * 65536 + c.from-3.result ≡ c.in_ok-low_time.low_time + 65536 * c.in_ok-high_time.high_time = omega arith in
    (λ i. Some (record { length = c.in_ok-length.length; tag = tag i; source_type = c.in_ok-source_type.source_type; source_id = c.in_ok-source_id.source_id; time = (joined ∙ swapped) i }))
    ∙ read (g.S.Store.cells c.args.store.now) c.args.at _ c.in_ok-length.ensures.is _ _ _ _ _ (sym c.in_ok-source_type.ensures) (sym c.in_ok-source_id.ensures)
    (sym c.in_ok-data_type.ensures) (sym c.in_ok-low_time.ensures) (sym c.in_ok-high_time.ensures)
