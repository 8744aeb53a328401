-- `leaf_builder::build_parts` meets its contract: what is pushed in order builds the page.
-- Assumes nothing.
use Rattle.std.proofs.Common.{rules}
use Rattle.leaf_builder.proofs.Rebuilding.{parts_laid, parts_begin, parts_cells, parts_chunk, parts_built}
use Rattle.leaf_builder.proofs.build_parts.Goals as goal

pub size_between-total-requires : goal.size_between-total-requires
size_between-total-requires c = (search (parts_laid, rules), search rules, search rules)

pub begin-first-requires : goal.begin-first-requires
begin-first-requires c = search (parts_begin, rules)

pub push_cells-next-requires : goal.push_cells-next-requires
push_cells-next-requires c = search (parts_cells, rules)

pub push_chunk-requires : goal.push_chunk-requires
push_chunk-requires c = search (parts_chunk, rules)

pub returns : goal.returns
returns c = search (parts_built, rules)
