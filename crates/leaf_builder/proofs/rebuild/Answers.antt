-- `leaf_builder::rebuild` meets its contract: the page in the area's front, the rest as it was.
-- Assumes nothing.
use Rattle.std.proofs.Common.{rules, refl}
use Rattle.refusal.proofs.Refused.{refused}
use Rattle.leaf_builder.proofs.Rebuilding.{rebuild_front, rebuild_kept, rebuild_room, rebuild_zero, rebuild_parts, rebuild_leaves_lem}
use Rattle.leaf_builder.proofs.rebuild.Goals as goal

pub returns-in_err-rebuild_verdict : goal.returns-in_err-rebuild_verdict
returns-in_err-rebuild_verdict c = record { value = search rules; out_after = search (rebuild_kept, refused, rules) }

pub slice_bounds-build_parts-end : goal.slice_bounds-build_parts-end
slice_bounds-build_parts-end c = search (rebuild_room, rules)

pub slice_bounds-build_parts-end-2 : goal.slice_bounds-build_parts-end-2
slice_bounds-build_parts-end-2 c = search (rebuild_front, rules)

pub build_parts-requires : goal.build_parts-requires
build_parts-requires c = search (rebuild_parts, rules)

pub returns : goal.returns
returns c = record { value = search (rebuild_zero, rules); out_after = rebuild_leaves_lem _ _ _ _ _ _ _ c.in_ok-rebuild_verdict.ensures refl _ c.build_parts.ensures }
