-- Records pushed in order: pushes join, and the pushes of all records of a page build it, whatever the lent page held. Assumes nothing.
use Prim.Native.Nat.{ℕ, ◌+◌, ◌-◌, ◌≤◌}
use mathlib.Core.Path.{◌≡◌, ◌∙◌}
use mathlib.Core.List.{List, ◌++◌, append_assoc}
use native.Mathlib.Omega.{arith}
use lib.ListN.{length, length-append}
use Rattle.bit_ops.specs.Steps.{zeros}
use Rattle.leaf_node.specs.Limits.{body_limit}
use Rattle.leaf_node.specs.Record.{Record, values, total}
use Rattle.leaf_node.specs.Page.{pointer}
use Rattle.leaf_node.specs.Build.{le16, pointers, build, put, started, pushed}
use Rattle.leaf_node.specs.Fits.{All, Keyed, Fits}
use Rattle.leaf_node.proofs.Lengths.{length_le16, length_zeros, length_values, length_pointers, values_append, pointers_append, body_is_pointers_and_values}
use Rattle.leaf_node.proofs.Copying.{put_all}
use Rattle.leaf_builder.proofs.Putting.{length_put, put_put, put_swap}

pub length_started : (d : List ℕ) (n t : ℕ) → pointer n + t ≤ length d → length (started d n t) ≡ length d
unfolding started
length_started d n t h =
    let a = length_put d 0 (le16 n) (omega (arith, length_le16 n)) in
    length_put (put d 0 (le16 n)) (pointer n) (zeros (length d - t - pointer n)) (omega (arith, length_zeros (length d - t - pointer n))) ∙ a

pub length_pushed : (d : List ℕ) (j at : ℕ) {rs : List Record} → All Keyed rs → pointer (j + length rs) ≤ at → at + total rs ≤ length d → length (pushed d j at rs) ≡ length d
unfolding pushed
length_pushed d j at {rs} k h f =
    let a = length_put d (pointer j) (pointers at rs) (omega (arith, length_pointers at k)) in
    length_put (put d (pointer j) (pointers at rs)) at (values rs) (omega (arith, length_values rs)) ∙ a

pub pushes_join : (d : List ℕ) (j at : ℕ) (rs ss : List Record) → All Keyed rs → All Keyed ss → pointer (j + length rs + length ss) ≤ at → at + total rs + total ss ≤ length d
    → pushed (pushed d j at rs) (j + length rs) (at + total rs) ss ≡ pushed d j at (rs ++ ss)
unfolding pushed
pushes_join d j at rs ss k l h f =
    let lp = length_pointers at k in
    let lq = length_pointers (at + total rs) l in
    let lv = length_values rs in
    let p : List ℕ = pointers at rs in
    let q : List ℕ = pointers (at + total rs) ss in
    let x : List ℕ = put d (pointer j) p in
    let lx : length x ≡ length d = length_put d (pointer j) p (omega arith) in
    let y : List ℕ = put d (pointer j) (p ++ q) in
    let ly : length y ≡ length d = length_put d (pointer j) (p ++ q) (simp length-append (omega arith)) in
    rw (
      put_swap x (pointer (j + length rs)) q at (values rs) (omega arith) (omega arith),
      put_put d (pointer j) p (pointer (j + length rs)) q (omega arith) (omega arith),
      put_put y at (values rs) (at + total rs) (values ss) (omega arith) (omega arith),
      pointers_append at rs ss,
      values_append rs ss,
    )

pub pushing_all_records_builds_the_page : (size : ℕ) (d : List ℕ) (rs : List Record) → length d ≡ size → Fits size rs
    → pushed (started d (length rs) (total rs)) 0 (size - total rs) rs ≡ build size rs
unfolding pushed started build body_limit
pushing_all_records_builds_the_page size d rs s f =
    let n : ℕ = length rs in
    let first : ℕ = size - total rs in
    let p : List ℕ = pointers first rs in
    let z : List ℕ = zeros (first - pointer n) in
    let b = body_is_pointers_and_values rs in
    let lw = length_le16 n in
    let lp = length_pointers first f.keys in
    let lz = length_zeros (first - pointer n) in
    let lv = length_values rs in
    let r = f.room in
    let m = f.sized.least in
    let ld : length (put d 0 (le16 n)) ≡ length d = length_put d 0 (le16 n) (omega arith) in
    let l₂ : length (le16 n ++ p) ≡ pointer n = simp length-append (omega arith) in
    let l₃ : length (le16 n ++ p ++ z) ≡ first = simp length-append (omega arith) in
    let whole : length (le16 n ++ p ++ z ++ values rs) ≡ length d = simp length-append (omega arith) in
    rw (
      s,
      put_swap (put d 0 (le16 n)) 2 p (pointer n) z (omega arith) (omega arith),
      put_put d 0 (le16 n) 2 p (omega arith) (omega arith),
      put_put d 0 (le16 n ++ p) (pointer n) z (omega arith) (omega arith),
      put_put d 0 (le16 n ++ p ++ z) first (values rs) (omega arith) (omega arith),
      put_all d (le16 n ++ p ++ z ++ values rs) whole,
    )
    (simp append_assoc)
