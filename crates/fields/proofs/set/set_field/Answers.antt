use Rattle.std.proofs.Common.{sym}
use Rattle.fields.specs.Fields.{means}
use Rattle.fields.proofs.Rounds.{set_law}
use Rattle.fields.proofs.set.set_field.Goals as goal

pub returns-clause-law : goal.returns-clause-law
returns-clause-law c =
    set_law c.args.data_type c.args.n (means c.args.value) c.args.body.now (c.in_ok-at.at, c.in_ok-at.letter) c.put_value.result c.put_value.new.s (sym c.in_ok-at.ensures.value) c.in_ok-at.ensures.within c.put_value.ensures
