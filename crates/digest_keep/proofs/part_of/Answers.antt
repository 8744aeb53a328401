-- `digest_keep::part_of` meets its contract.
-- Assumes nothing.
use Rattle.std.proofs.Common.{rules}
use Rattle.digest_keep.proofs.Parts.{an_entry_is_its_part, the_rest_is_its_part}
use Rattle.digest_keep.proofs.part_of.Goals as goal

pub returns-then-place-span : goal.returns-then-place-span
returns-then-place-span c = search (an_entry_is_its_part, rules)

pub returns : goal.returns
returns c = search (the_rest_is_its_part, rules)
