use Rattle.std.proofs.Common.{rules}
use Rattle.overflow_split.proofs.Splitting.{all_pages_are_chunked, one_more_page_is_chunked}
use Rattle.overflow_split.proofs.chunk.Goals as goal

pub loop-i-preserved : goal.loop-i-preserved
loop-i-preserved c = search (one_more_page_is_chunked, rules)

pub returns : goal.returns
returns c = search (all_pages_are_chunked, rules)
