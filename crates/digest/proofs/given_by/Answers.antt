-- `digest::given_by` meets its contract.
-- Assumes nothing.
use Rattle.std.proofs.Common.{rules}
use Rattle.digest.proofs.Digesting.{nothing_is_left, something_is_left}
use Rattle.digest.proofs.given_by.Goals as goal

pub returns : goal.returns
returns c = search (nothing_is_left, something_is_left, rules)
