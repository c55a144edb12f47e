use Rattle.std.proofs.Common.{◌++◌, drop, refl, ap, ◌∙◌}
use Rattle.indexfile.specs.Numbers.{bytes_of}
use Rattle.indexfile.proofs.Bytes.{low_is, then_put}
use Rattle.indexfile.proofs.write.put_head.Goals as goal

pub returns : goal.returns
returns c =
    let s = c.args.slot.now in
    let one = bytes_of 4 c.args.counts.rows in
    let two = one ++ bytes_of 4 16 in
    let three = two ++ bytes_of 4 c.args.counts.place in
    let a = c.write_u32.ensures ∙ ap (λ xs. xs ++ drop 4 s) (low_is 4 c.args.counts.rows) in
    let b = then_put 4 16 4 _ s _ c.write_u32-2.new.buf one a refl refl c.write_u32-2.ensures in
    let d = then_put 4 c.args.counts.place 8 _ s _ c.write_u32-3.new.buf two b refl refl c.write_u32-3.ensures in
    then_put 4 c.args.counts.skipped 12 _ s _ c.write_u32-4.new.buf three d refl refl c.write_u32-4.ensures
