use Rattle.std.proofs.Common.{◌-◌, [], ◌∷◌, ◌++◌, length, replicate, sym, refl, ap}
use Rattle.indexfile.specs.Numbers.{bytes_of}
use Rattle.indexfile.proofs.Bytes.{then_put}
use Rattle.writing.proofs.output.front_bytes.Goals as goal

pub returns-clause-value : goal.returns-clause-value
returns-clause-value c =
    let h = c.args.header in
    let s = 0 ∷ 128 ∷ replicate 12 0 in
    let one = 0 ∷ 128 ∷ [] in
    let two = one ++ bytes_of 2 h.source_type in
    let three = two ++ bytes_of 2 h.source_id in
    let four = three ++ bytes_of 2 h.data_type in
    let five = four ++ bytes_of 4 h.time in
    let b = then_put 2 h.source_type 2 12 s s c.write_u16.new.buf one refl refl refl c.write_u16.ensures in
    let d = then_put 2 h.source_id 4 10 s _ c.write_u16-2.new.buf two b refl (sym (ap (λ xs. length xs - 4) b)) c.write_u16-2.ensures in
    let e = then_put 2 h.data_type 6 8 s _ c.write_u16-3.new.buf three d refl (sym (ap (λ xs. length xs - 6) d)) c.write_u16-3.ensures in
    let f = then_put 4 h.time 8 6 s _ c.write_u32.new.buf four e refl (sym (ap (λ xs. length xs - 8) e)) c.write_u32.ensures in
    then_put 2 c.args.size 12 2 s _ c.write_u16-4.new.buf five f refl (sym (ap (λ xs. length xs - 12) f)) c.write_u16-4.ensures
