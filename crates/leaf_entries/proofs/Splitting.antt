-- An entry split behind its first records. Assumes nothing.
use mathlib.Core.Path.{◌≡◌, refl}
use mathlib.Core.Bool.{Bool, true, false, cond, ◌||◌}
use Prim.Native.Nat.{ℕ, ◌+◌, ◌-◌, ◌≤◌, ◌<◌}
use native.Mathlib.Omega.{arith}
use lib.Dec.{ltb}
use borrow.Author.Tests.{eq-eqb, ne_eqb, lt-ltb, le-ltb}
use Rattle.leaf_work.specs.declared.Entry.{Entry}
use Rattle.leaf_work.specs.Lent.{an_insert, chunk_of}
use Rattle.leaf_entries.specs.Lists.{behind_of}

either_way : (a b : Bool) (e f : Entry) → b ≡ true → e ≡ cond (a || b) e f
either_way true b e f h = refl
either_way false b e f h = rw h

module _ (e : Entry) (skip : ℕ) where
  pub an_insert_stays_whole : e.kind ≡ 1 → e ≡ behind_of skip e
  unfolding behind_of
  an_insert_stays_whole k = rw (eq-eqb e.kind 1 k)

  too_short : e.to < e.from + skip → e ≡ behind_of skip e
  unfolding behind_of
  too_short h = either_way (an_insert e) (ltb e.to (e.from + skip)) e (chunk_of (e.from + skip) e.to 0) (lt-ltb e.to (e.from + skip) h)

  pub an_empty_chunk_stays_whole : e.to < e.from → e ≡ behind_of skip e
  an_empty_chunk_stays_whole h = too_short (omega (arith, h))

  pub a_shorter_chunk_stays_whole : e.from ≤ e.to → e.to - e.from < skip → e ≡ behind_of skip e
  a_shorter_chunk_stays_whole l h = too_short (omega (arith, l, h))

  pub a_chunk_is_split : (e.kind ≡ 1 → ⊥) → e.from ≤ e.to → skip ≤ e.to - e.from → (r : Entry) → r ≡ chunk_of (e.from + skip) e.to 0 → r ≡ behind_of skip e
  unfolding behind_of
  a_chunk_is_split n l h r q = rw (q, ne_eqb e.kind 1 n, le-ltb e.to (e.from + skip) (omega (arith, l, h)))
