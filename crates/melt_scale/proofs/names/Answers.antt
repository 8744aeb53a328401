-- `melt_scale::names` meets its contract.
-- Assumes nothing.
use Rattle.std.proofs.Common.{rules}
use Rattle.melt_scale.proofs.Records.{prefixes_are_compared}
use Rattle.melt_scale.proofs.names.Goals as goal

pub returns : goal.returns
returns c = search (prefixes_are_compared, rules)
