-- Bytes copied within a list: right below an index, or to the start. Assumes nothing.
use mathlib.Core.Path.{◌≡◌}
use mathlib.Core.List.{List}
use Prim.Native.Nat.{ℕ, ◌+◌, ◌-◌, ◌≤◌}
use native.Mathlib.Omega.{arith}
use lib.ListN.{length, take, drop, length-drop}
use lib.Seq.{length-take-le, take_all}
use Rattle.std.specs.List.{copy_within}
use Rattle.leaf_move.specs.Moving.{under, lowered}

pub copied_up_is_under : (d : List ℕ) (from to end : ℕ) → from ≤ to → to ≤ end → end ≤ length d
    → copy_within d from to (end - (to - from)) ≡ under d end (take (to - from) (drop from d))
unfolding under
copied_up_is_under d from to end h k l =
    let m : length (take (to - from) (drop from d)) ≡ to - from = length-take-le (to - from) (drop from d) (rw (length-drop from d) (omega arith)) in
    let e : end - (to - from) + (to - from) ≡ end = omega arith in
    rw (m, e)

pub copied_down_is_lowered : {A : Type 0} (d : List A) (count : ℕ) → count ≤ length d → copy_within d (length d - count) (length d) 0 ≡ lowered d count
unfolding lowered
copied_down_is_lowered d count h =
    let e : length d - (length d - count) ≡ count = omega arith in
    let z : 0 + count ≡ count = omega arith in
    rw (e, z, take_all count (drop (length d - count) d) (rw (length-drop (length d - count) d) (omega arith)))
