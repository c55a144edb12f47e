use Rattle.layouts.proofs.Walks.{within_body}
use Rattle.layouts.proofs.locate.locate.Goals as goal

pub returns-in_ok-read_settings-in-Settings-clause-within : goal.returns-in_ok-read_settings-in-Settings-clause-within
returns-in_ok-read_settings-in-Settings-clause-within c =
    within_body _ c.args.n _ c.field.result c.field.ensures c.in_ok-read_settings-in-Settings.ensures.whole

pub returns-in_ok-fixed_letters-in_default-clause-within : goal.returns-in_ok-fixed_letters-in_default-clause-within
returns-in_ok-fixed_letters-in_default-clause-within c =
    within_body _ c.args.n _ c.field-in_default.result c.field-in_default.ensures c.in_ok-fixed_letters-in_default.ensures.whole
