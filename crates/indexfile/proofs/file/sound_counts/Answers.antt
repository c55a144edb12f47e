use Rattle.std.proofs.Common.{◌≡◌, map, ◌∙◌, rules}
use Rattle.std.specs.Bool.{then_some}
use Rattle.std.proofs.lemmas.Iterator.{YieldsList-from_slice, YieldsList-from_map}
use Rattle.std.proofs.lemmas.Iterator.Consumers.{YieldsList-at}
use Rattle.indexfile.specs.Files.{row_of, sound_rows, sound_file}
use Rattle.indexfile.proofs.Orders.{sound_from}
use Rattle.indexfile.proofs.Numbered.{pieces, sound_in_pieces}
use Rattle.indexfile.proofs.file.sound_counts.Goals as goal

pub returns : goal.returns
returns c =
    let bs = c.args.bytes.now in
    let counts = c.counts_at-counts.ensures in
    let given = sound_from (sound_rows c.counts_at-counts.result.place c.counts_at-counts.result.skipped) c.sound.ensures (YieldsList-from_map _ row_of (YieldsList-at c.map-rows.ensures.source (YieldsList-from_slice (pieces bs) (c.iter.ensures.rest ∙ c.rows_behind.ensures))) c.map-rows.ensures.closure (λ x r q k. search rules)) in
    let sound : c.sound.result ≡ sound_file bs = sound_in_pieces bs _ c.if-not-is_shaped.ensures (given ∙ (λ i. sound_rows (counts i).place (counts i).skipped (map row_of (pieces bs)))) in
    c.then_some.ensures ∙ (λ i. then_some (sound i) (counts i))
