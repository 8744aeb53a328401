-- Where listed values stand: each ends at or below the sum of all values up to it, and each entry has a record. Assumes nothing.
use mathlib.Core.Path.{◌≡◌, refl, ap}
use mathlib.Core.Bool.{Bool, true, false, false≢true}
use mathlib.Core.List.{List, [], ◌∷◌, ◌++◌, append_assoc}
use Prim.Native.Nat.{ℕ, zero, suc, ◌+◌, ◌≤◌, ◌<◌}
use native.Mathlib.Omega.{arith}
use lib.Dec.{eqb}
use lib.ListN.{length, get_or, take, length-append}
use lib.Seq.{take-append-add}
use borrow.Author.Tests.{eq-eqb, eqb-true}
use Rattle.leaf_node.specs.Record.{Record, total}
use Rattle.leaf_work.specs.Lent.{blank}
use Rattle.leaf_work.specs.declared.Entry.{Entry}
use Rattle.leaf_work.specs.Lent.{an_insert}
use Rattle.leaf_work.specs.Sound.{placed}
use Rattle.leaf_work.specs.Ready.{EntryIn}
use Rattle.leaf_cut.specs.Sizes.{sizes, sum, entry_sizes, listed_sizes}
use Rattle.leaf_cut.specs.declared.Span.{Span}
use Rattle.leaf_cut.specs.Steps.{Spread}
use Rattle.leaf_cut.proofs.Cursors.{one_more_entry}
use Rattle.leaf_cut.proofs.Walking.{an_entry_has_a_record}

-- ---- sums

pub total_is_a_sum : (rs : List Record) → total rs ≡ sum (sizes rs)
unfolding total sum
total_is_a_sum [] = refl
total_is_a_sum (r ∷ rs) = ap (λ (n : ℕ). length r.value + n) (total_is_a_sum rs)

pub sum_append : (xs ys : List ℕ) → sum (xs ++ ys) ≡ sum xs + sum ys
unfolding sum
sum_append [] ys = omega arith
sum_append (x ∷ xs) ys = omega (arith, sum_append xs ys)

-- the first entries' sizes come first
pub listed_prefix : (page : List ℕ) (j used : ℕ) (list : List Entry) (tail : List ℕ) → j ≤ used → take (length (listed_sizes page j list)) (listed_sizes page used list ++ tail) ≡ listed_sizes page j list
unfolding listed_sizes
listed_prefix page zero used list tail h = refl
listed_prefix page (suc j) zero list tail h = absurd (omega arith)
listed_prefix page (suc j) (suc used) [] tail h = refl
listed_prefix page (suc j) (suc used) (r ∷ rs) tail h =
    let x : List ℕ = entry_sizes page r in
    rw (length-append x (listed_sizes page j rs), append_assoc x (listed_sizes page used rs) tail, take-append-add x (listed_sizes page used rs ++ tail) (length (listed_sizes page j rs)), listed_prefix page j used rs tail (omega arith))

pub an_entry_has_no_less_than_one_record : (list : List Entry) (page : List ℕ) (s : Span) → Spread list page s → (i : ℕ) → i ≤ s.used → i ≤ length (listed_sizes page i list)
an_entry_has_no_less_than_one_record list page s h zero k = omega arith
an_entry_has_no_less_than_one_record list page s h (suc i) k =
    omega (
      arith,
      an_entry_has_no_less_than_one_record list page s h i (omega arith),
      one_more_entry page i list (omega (arith, h.used_in)),
      an_entry_has_a_record page (get_or list i blank) s (h.entries i (omega arith)) h.rest,
    )

-- ---- places

module _ (end at : ℕ) (e : Entry) (es : List Entry) where
  placed_insert : an_insert e ≡ true → placed end at (e ∷ es) ≡ true → (e.from ≡ at) × (placed end e.to es ≡ true)
  placed_insert i h = go (eqb e.from at) refl (rw (i, placed) at h)
    where
      go : (b : Bool) → eqb e.from at ≡ b → ◌≡◌ {A = Bool} (elim (eqb e.from at) [ true ↦ placed end e.to es | false ↦ false ]) true → (e.from ≡ at) × (placed end e.to es ≡ true)
      go true q k = (eqb-true _ _ q, rw q at k)
      go false q k = let z : false ≡ true = rw q at k in absurd (false≢true z)

  placed_chunk : an_insert e ≡ false → placed end at (e ∷ es) ≡ true → placed end at es ≡ true
  placed_chunk i h = rw (i, placed) at h

module _ (page : List ℕ) (end low filled : ℕ) where
  insert_sum : (entry : Entry) → EntryIn low filled entry → eqb entry.kind 1 ≡ true → entry.to ≡ entry.from + sum (entry_sizes page entry)
  unfolding entry_sizes sum
  insert_sum entry h i = rw i (omega (arith, (h.insert (eqb-true _ _ i)).0))

  pub a_listed_value_ends_below_the_sum : (i used at : ℕ) (list : List Entry) → i < used → used ≤ length list
      → ((j : ℕ) → j < used → EntryIn low filled (get_or list j blank)) → placed end at (take used list) ≡ true
      → (get_or list i blank).kind ≡ 1 → (get_or list i blank).to ≤ at + sum (listed_sizes page (suc i) list)
  unfolding listed_sizes
  a_listed_value_ends_below_the_sum i zero at list h u n p o = absurd (omega arith)
  a_listed_value_ends_below_the_sum i (suc used) at [] h u n p o = absurd (omega arith)
  a_listed_value_ends_below_the_sum zero (suc used) at (e ∷ es) h u n p o =
      let t : eqb e.kind 1 ≡ true = eq-eqb e.kind 1 o in
      let d = placed_insert end at e (take used es) t p in
      omega (arith, d.0, insert_sum e (n 0 (omega arith)) t, sum_append (entry_sizes page e) [])
  a_listed_value_ends_below_the_sum (suc i) (suc used) at (e ∷ es) h u n p o = go (eqb e.kind 1) refl (λ a q. a_listed_value_ends_below_the_sum i used a es (omega arith) (omega arith) (λ j m. n (suc j) (omega arith)) q o)
    where
      go : (b : Bool) → eqb e.kind 1 ≡ b → ((a : ℕ) → placed end a (take used es) ≡ true → (get_or es i blank).to ≤ a + sum (listed_sizes page (suc i) es))
          → (get_or es i blank).to ≤ at + sum (entry_sizes page e ++ listed_sizes page (suc i) es)
      go true t ih =
          let d = placed_insert end at e (take used es) t p in
          omega (arith, d.0, insert_sum e (n 0 (omega arith)) t, ih e.to d.1, sum_append (entry_sizes page e) (listed_sizes page (suc i) es))
      go false t ih = omega (arith, ih at (placed_chunk end at e (take used es) t p), sum_append (entry_sizes page e) (listed_sizes page (suc i) es))
