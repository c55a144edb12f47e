use Rattle.std.proofs.Common.{rules}
use Rattle.packets.specs.Packets.{pair_sound}
use Rattle.packets.specs.Parts.{two_held}
use Rattle.packets.proofs.Sounds.{sound_read}
use Rattle.packets.proofs.pair.judge_pair.Goals as goal

pub returns : goal.returns
returns c =
    let e = sound_read two_held _ c.read_pair.result (pair_sound c.args.counter c.args.body.now) c.read_pair.ensures in
    search (rules, e)
