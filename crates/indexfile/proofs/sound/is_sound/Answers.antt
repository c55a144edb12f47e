use Rattle.std.proofs.lemmas.Iterator.{YieldsList-from_slice}
use Rattle.std.proofs.lemmas.Iterator.Consumers.{YieldsList-at, YieldsList-from_copied}
use Rattle.indexfile.specs.Files.{sound_rows}
use Rattle.indexfile.proofs.Orders.{sound_from}
use Rattle.indexfile.proofs.sound.is_sound.Goals as goal

pub returns : goal.returns
returns c = sound_from (sound_rows c.args.counts.place c.args.counts.skipped) c.sound.ensures (YieldsList-from_copied (YieldsList-at c.copied.ensures.source (YieldsList-from_slice c.args.rows.now c.iter.ensures.rest)))
