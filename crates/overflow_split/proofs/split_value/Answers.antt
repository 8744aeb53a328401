use Rattle.std.proofs.Common.{rules}
use Rattle.refusal.proofs.Refused.{passed_on}
use Rattle.overflow_split.proofs.Splitting.{a_refused_reply, a_refused_area, the_list_has_the_numbers, the_first_numbers_are_there, the_area_has_the_pages, a_written_area, a_written_reply}
use Rattle.overflow_split.proofs.split_value.Goals as goal

pub returns-in_err-pages-clause-value : goal.returns-in_err-pages-clause-value
returns-in_err-pages-clause-value c =
    rw (passed_on _ _ c.from_residual.ensures) (search (a_refused_reply, c.in_err-pages.ensures.number, rules))

pub returns-in_err-pages-clause-area_after : goal.returns-in_err-pages-clause-area_after
returns-in_err-pages-clause-area_after c = search (a_refused_area, c.in_err-pages.ensures.number, rules)

pub slice_bounds-encode_cell-end : goal.slice_bounds-encode_cell-end
slice_bounds-encode_cell-end c = search (the_first_numbers_are_there, c.split_verdict.ensures.number, c.split_verdict.ensures.count, rules)

pub slice_bounds-chunk-end : goal.slice_bounds-chunk-end
slice_bounds-chunk-end c = search (the_list_has_the_numbers, c.split_verdict.ensures.number, c.split_verdict.ensures.count, rules)

pub chunk-requires : goal.chunk-requires
chunk-requires c = search (the_area_has_the_pages, c.split_verdict.ensures.number, c.split_verdict.ensures.count, rules)

pub returns-clause-value : goal.returns-clause-value
returns-clause-value c = search (a_written_reply, c.split_verdict.ensures.number, c.split_verdict.ensures.count, rules)

pub returns-clause-area_after : goal.returns-clause-area_after
returns-clause-area_after c = search (a_written_area, c.split_verdict.ensures.number, c.split_verdict.ensures.count, rules)
