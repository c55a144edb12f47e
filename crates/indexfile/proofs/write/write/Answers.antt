use Rattle.std.proofs.Common.{sym, arith}
use Rattle.indexfile.proofs.Rounds.{front_reads_back}
use Rattle.indexfile.proofs.write.write.Goals as goal

pub returns-clause-law : goal.returns-clause-law
returns-clause-law c =
    front_reads_back c.args.place c.args.skipped c.args.rows.now c.fill.new.buffer _ (omega arith) (omega arith) (omega arith) c.fill.ensures.wide (sym c.if-not-is_sound.ensures) c.fill.ensures.bytes
