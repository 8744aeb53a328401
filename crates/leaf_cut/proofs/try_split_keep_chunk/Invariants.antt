-- `leaf_cut::try_split_keep_chunk` meets its contract. The invariant: from record i on the leaf ends where it does from the start.
-- Assumes nothing.
use mathlib.Core.Path.{◌≡◌}
use Prim.Native.Nat.{◌+◌, ◌-◌, ◌*◌, ◌<◌}
use Rattle.leaf_node.specs.Page.{length_at, run}
use Rattle.leaf_cut.specs.Sizes.{cut_sizes}
use Rattle.leaf_cut.proofs.try_split_keep_chunk.Given as goal

abbrev pub invariant-loop-i : goal.invariant-loop-i
invariant-loop-i l = (34 * l.so_far.count + l.so_far.bytes < l.aim.target) × (cut_sizes l.aim.limit l.aim.target l.initial.so_far.count l.initial.so_far.bytes (run (l.to - l.from) l.from (length_at l.node.page.now)) ≡ cut_sizes l.aim.limit l.aim.target l.so_far.count l.so_far.bytes (run (l.to - l.i) l.i (length_at l.node.page.now)))
