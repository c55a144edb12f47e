use Rattle.std.proofs.Common.{rules}
use Rattle.layouts.proofs.Lengths.{version_total}
use Rattle.layouts.proofs.settings.read_settings.Goals as goal

pub returns-clause-whole : goal.returns-clause-whole
returns-clause-whole c = search (rules, version_total)
