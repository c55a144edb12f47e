use Rattle.std.proofs.Common.{◌≡◌, sym, ap, ◌∙◌, rules}
use Rattle.std.specs.Option.{option_and_then}
use Rattle.std.specs.Result.{result_ok}
use Rattle.recording.specs.Cells.{byte_held, cell_at}
use Rattle.records.proofs.Reading.{first_cell, held_is}
use Rattle.records.proofs.bytes.byte.Goals as goal

pub returns : goal.returns
returns g c =
    let cs = g.S.Store.cells c.args.store.now in
    let made : c.and_then.result ≡ option_and_then byte_held c.ok.result = search rules in
    made ∙ ap (option_and_then byte_held) (c.ok.ensures.value ∙ ap result_ok c.cell.ensures) ∙ held_is (cell_at cs c.args.at) ∙ sym (first_cell cs c.args.at)
