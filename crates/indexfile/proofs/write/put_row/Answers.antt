use Rattle.std.proofs.Common.{◌++◌, drop, refl, ap, ◌∙◌}
use Rattle.indexfile.specs.Numbers.{bytes_of}
use Rattle.indexfile.proofs.Bytes.{low_is, then_put}
use Rattle.indexfile.proofs.write.put_row.Goals as goal

pub returns-clause-bytes : goal.returns-clause-bytes
returns-clause-bytes c =
    let s = c.args.slot.now in
    let x = c.args.row in
    let one = bytes_of 4 x.place in
    let two = one ++ bytes_of 4 x.length in
    let three = two ++ bytes_of 4 x.tag in
    let four = three ++ bytes_of 2 x.source_type in
    let five = four ++ bytes_of 2 x.source_id in
    let a = c.write_u32.ensures ∙ ap (λ xs. xs ++ drop 4 s) (low_is 4 x.place) in
    let b = then_put 4 x.length 4 _ s _ c.write_u32-2.new.buf one a refl refl c.write_u32-2.ensures in
    let d = then_put 4 x.tag 8 _ s _ c.write_u32-3.new.buf two b refl refl c.write_u32-3.ensures in
    let e = then_put 2 x.source_type 12 _ s _ c.write_u16.new.buf three d refl refl c.write_u16.ensures in
    let f = then_put 2 x.source_id 14 _ s _ c.write_u16-2.new.buf four e refl refl c.write_u16-2.ensures in
    then_put 4 x.time 16 _ s _ c.write_u32-4.new.buf five f refl refl c.write_u32-4.ensures
