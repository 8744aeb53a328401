-- Nos. 21 to 23: what each stands for, and what an accepted call is lent. Assumes nothing.
use mathlib.Core.Path.{◌≡◌, ◌∙◌, refl}
use mathlib.Core.Bool.{Bool, true, false, cond, ◌&&◌}
use mathlib.Core.List.{List}
use Prim.Native.Nat.{ℕ, ◌*◌, ◌≤◌}
use native.Mathlib.Omega.{arith}
use lib.Dec.{leb}
use lib.ListN.{length}
use borrow.Author.Tests.{leb-true, le-leb}
use Rattle.leaf_node.proofs.Rules.{both}
use Rattle.refusal.specs.declared.Refusal.{Refusal}
use Rattle.refusal.specs.Numbers.{number}
use Rattle.overflow.specs.Count.{size_right, page_count}
use Rattle.overflow.specs.Read.{cell_count, cell_right}
use Rattle.overflow.specs.Verdict.{count_verdict, split_verdict, all_right, read_verdict}
use Rattle.overflow.proofs.Counts.{Sized, right_sizes, sizes_are_right, accepted_sizes, refused_sizes}

-- ---- splitting

module _ (n numbers area : ℕ) where
  pub a_refused_size_is_not_split : (r : Refusal) → number r ≡ count_verdict n → number r ≡ split_verdict n numbers area
  unfolding count_verdict split_verdict
  a_refused_size_is_not_split r e =
      let f : size_right n ≡ false = refused_sizes n r e in
      e ∙ rw f

  module _ (e : 0 ≡ count_verdict n) (t : ℕ) (q : t ≡ page_count n) where
    pub long_buffers_are_accepted : (leb t numbers && leb (4096 * t) area) ≡ true → 0 ≡ split_verdict n numbers area
    unfolding split_verdict
    long_buffers_are_accepted l = rw (accepted_sizes n e, ← q, l)

    pub short_buffers_are_refused : (leb t numbers && leb (4096 * t) area) ≡ false → 22 ≡ split_verdict n numbers area
    unfolding split_verdict
    short_buffers_are_refused l = rw (accepted_sizes n e, ← q, l)

-- what a splitting that isn't refused is lent
pub record Lent (n numbers area : ℕ) : Type 0 where
  pub sized : Sized n
  pub listed : page_count n ≤ numbers
  pub room : 4096 * page_count n ≤ area

pub accepted_splittings : (n numbers area : ℕ) → split_verdict n numbers area ≡ 0 → Lent n numbers area
unfolding split_verdict
accepted_splittings n numbers area h = go (size_right n) (leb (page_count n) numbers && leb (4096 * page_count n) area) refl refl h
  where
    go : (b d : Bool) → size_right n ≡ b → (leb (page_count n) numbers && leb (4096 * page_count n) area) ≡ d → ◌≡◌ {A = ℕ} (cond b (cond d 0 22) 21) 0 → Lent n numbers area
    go true true e f z =
        let p = both (leb (page_count n) numbers) (leb (4096 * page_count n) area) f in
        record { sized = right_sizes n e; listed = leb-true (page_count n) numbers p.0; room = leb-true (4096 * page_count n) area p.1 }
    go true false e f z = absurd (omega arith)
    go false d e f z = absurd (omega arith)

pub splittings_that_are_lent_enough : (n numbers area : ℕ) → Lent n numbers area → split_verdict n numbers area ≡ 0
unfolding split_verdict
splittings_that_are_lent_enough n numbers area l =
    rw (sizes_are_right n l.sized.some l.sized.most, le-leb (page_count n) numbers l.listed, le-leb (4096 * page_count n) area l.room)

-- ---- joining and freeing

-- what a reading that isn't refused is lent
pub record Readable (cell pages : List ℕ) (fits : Bool) : Type 0 where
  pub right : cell_right cell ≡ true
  pub fitting : fits ≡ true
  pub there : 4096 * cell_count cell ≤ length pages
  pub written : all_right cell pages ≡ true

module _ (cell pages : List ℕ) (fits : Bool) where
  pub accepted_readings : read_verdict cell pages fits ≡ 0 → Readable cell pages fits
  unfolding read_verdict
  accepted_readings h = go (cell_right cell) fits (leb (4096 * cell_count cell) (length pages)) (all_right cell pages) refl refl refl refl h
    where
      go : (a b d e : Bool) → cell_right cell ≡ a → fits ≡ b → leb (4096 * cell_count cell) (length pages) ≡ d → all_right cell pages ≡ e
          → ◌≡◌ {A = ℕ} (cond a (cond (b && d) (cond e 0 23) 22) 23) 0 → Readable cell pages fits
      go true true true true ea eb ed ee z = record { right = ea; fitting = eb; there = leb-true (4096 * cell_count cell) (length pages) ed; written = ee }
      go true true true false ea eb ed ee z = absurd (omega arith)
      go true true false e ea eb ed ee z = absurd (omega arith)
      go true false d e ea eb ed ee z = absurd (omega arith)
      go false b d e ea eb ed ee z = absurd (omega arith)

  pub readings_that_are_right : Readable cell pages fits → read_verdict cell pages fits ≡ 0
  unfolding read_verdict
  readings_that_are_right r = rw (r.right, r.fitting, le-leb (4096 * cell_count cell) (length pages) r.there, r.written)
