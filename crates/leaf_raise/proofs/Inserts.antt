-- Records as inserts: how many, and those of two lists. Assumes nothing.
use mathlib.Core.Path.{◌≡◌, sym, ap, ◌∙◌}
use mathlib.Core.List.{List, [], ◌∷◌, ◌++◌}
use Prim.Native.Nat.{ℕ, ◌+◌}
use native.Mathlib.Omega.{arith}
use native.Mathlib.Nat.{add-zero}
use lib.ListN.{length}
use Rattle.leaf_node.specs.Record.{Record, total}
use Rattle.leaf_work.specs.declared.Entry.{Entry}
use Rattle.leaf_work.specs.Lent.{insert_at}
use Rattle.leaf_work.specs.Tests.{bit}
use Rattle.leaf_work.specs.Digest.{inserts_of}
use Rattle.leaf_work.proofs.Operations.{puts, puts_entries, puts_length, entries_length}

pub inserts_append : (at : ℕ) (rs ss : List Record) → inserts_of at (rs ++ ss) ≡ inserts_of at rs ++ inserts_of (at + total rs) ss
unfolding total
inserts_append at [] ss = rw (add-zero at)
inserts_append at (r ∷ rs) ss =
    let e : at + length r.value + total rs ≡ at + (length r.value + total rs) = omega arith in
    let ih : inserts_of (at + length r.value) (rs ++ ss) ≡ inserts_of (at + length r.value) rs ++ inserts_of (at + (length r.value + total rs)) ss =
    inserts_append (at + length r.value) rs ss ∙ ap (λ (k : ℕ). inserts_of (at + length r.value) rs ++ inserts_of k ss) e in
    ap (λ (es : List Entry). insert_at at (at + length r.value) r.key (bit r.flag) ∷ es) ih

pub inserts_many : (at : ℕ) (rs : List Record) → length (inserts_of at rs) ≡ length rs
inserts_many at rs = ap length (sym (puts_entries [] at rs)) ∙ entries_length [] at (puts rs) ∙ puts_length rs
