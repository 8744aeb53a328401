-- Elements moved down to the start, and what is cleared behind them. Assumes nothing.
use mathlib.Core.Path.{◌≡◌, ◌∙◌}
use mathlib.Core.List.{List, ◌++◌, append-nil}
use Prim.Native.Nat.{ℕ, ◌+◌, ◌-◌, ◌≤◌}
use native.Mathlib.Omega.{arith}
use lib.ListN.{length, take, drop, replicate, length-append, length-drop, length-replicate, drop_of_length-le}
use lib.Seq.{take_at}
use Rattle.bit_ops.specs.Steps.{zeros}
use Rattle.leaf_node.specs.Build.{put}
use Rattle.leaf_model.specs.Basics.{cleared}
use Rattle.leaf_move.specs.Moving.{lowered, settled}

module _ {A : Type 0} (before : List A) (count : ℕ) (room : count ≤ length before) (low : List A) (e : low ≡ lowered before count) where
  pub top_long : length (drop (length before - count) before) ≡ count
  top_long = length-drop (length before - count) before ∙ omega arith

  pub low_long : length low ≡ length before
  unfolding lowered
  low_long = rw e (simp (length-append, length-drop) (omega arith))

  pub what_is_lowered_and_cleared_is_settled : (z : A) (now : List A) → now ≡ cleared z low count → now ≡ settled z before count
  unfolding cleared settled lowered
  what_is_lowered_and_cleared_is_settled z now f =
      f ∙ rw (low_long, e, take_at (drop (length before - count) before) (drop count before) count top_long)

module _ (before : List ℕ) (count : ℕ) (room : count ≤ length before) (low : List ℕ) (e : low ≡ lowered before count) where
  zeros_put : put low count (zeros (length before - count)) ≡ cleared 0 low count
  unfolding put cleared
  zeros_put =
      let l : length low ≡ length before = low_long before count room low e in
      let d : length low ≤ count + length (replicate {A = ℕ} (length before - count) 0) = rw (length-replicate {A = ℕ} (length before - count) 0) (omega (arith, l)) in
      rw (drop_of_length-le low {i = count + length (replicate {A = ℕ} (length before - count) 0)} d, l) (append-nil (take count low ++ replicate (length before - count) 0))

  pub bytes_that_are_lowered_and_cleared_are_settled : (now : List ℕ) → now ≡ put low count (zeros (length before - count)) → now ≡ settled 0 before count
  bytes_that_are_lowered_and_cleared_are_settled now f = what_is_lowered_and_cleared_is_settled before count room low e 0 now (f ∙ zeros_put)
