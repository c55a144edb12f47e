use Rattle.std.proofs.Common.{◌≡◌, ◌+◌, ◌≤◌, ◌++◌, length, vec_items, arith, rules}
use Rattle.writing.specs.Written.{written}
use Rattle.writing.proofs.Puts.{adds, in_pieces, put_whole, still_short}
use Rattle.writing.proofs.output.Output.put.Goals as goal

pub returns : goal.returns
returns c =
    let h = c.args.header in
    let body = c.args.body.now in
    let before = vec_items c.args.self.now.bytes in
    let after = vec_items c.extend_from_slice-3.new.self in
    let few : length body ≤ 65535 = omega (arith, c.if-body-gt-LONGEST.false) in
    let room : length before + (length body + 16) ≤ 2147483647 = omega (arith, c.if-len-body-gt-LIMIT.false, c.len.ensures, c.args.self.now.bytes.ok.0) in
    let e : after ≡ before ++ written h body =
    in_pieces h _ body before (vec_items c.reserve.new.self) (vec_items c.extend_from_slice.new.self) (vec_items c.extend_from_slice-2.new.self) after c.front_bytes.result c.to_le_bytes.result c.in_ok-reserve.ensures.items c.in_ok-extend_from_slice.ensures.items c.front_bytes.ensures.value c.in_ok-extend_from_slice-2.ensures.items c.in_ok-extend_from_slice-3.ensures.items c.to_le_bytes.ensures (search rules) in
    record { value = put_whole h body before after few room e; law = adds h body before after c.front_bytes.ensures.wide few e (still_short h body before after room e) }
