-- What a digest leaves: the work record, list, store, area and tickets. Assumes nothing.
use mathlib.Core.Path.{◌≡◌, refl}
use mathlib.Core.Bool.{Bool, true, false, cond}
use mathlib.Core.List.{List, [], ◌∷◌}
use Prim.Native.Nat.{ℕ}
use native.Mathlib.Omega.{arith}
use lib.ListN.{length}
use borrow.Author.Tests.{eq-eqb, ne_eqb}
use Rattle.leaf_node.specs.Record.{Record, total}
use Rattle.leaf_model.specs.Work.{zero_key, or_else, separator_after}
use Rattle.leaf_work.specs.declared.Work.{Work}
use Rattle.leaf_work.specs.Tests.{is_set, key_if}
use Rattle.leaf_work.specs.Lent.{separator_of}
use Rattle.leaf_work.specs.Digest.{digest_work}
use Rattle.leaf_cut.specs.declared.Gauge.{Gauge}
use Rattle.leaf_digest.specs.Steps.{digest_work_by}

-- ---- the work record

module _ (w : Work) (g : Gauge) (s : List ℕ) where
  -- the work with another turn, override and floor
  abbrev work_like : ℕ → ℕ → List ℕ → List ℕ → Work
  work_like turn over overriding floor = record {
    turn = turn;
    based = w.based;
    mode = w.mode;
    low = 0;
    used = g.count;
    filled = g.bytes;
    count = g.count;
    bytes = g.bytes;
    latest = w.latest;
    cut = w.cut;
    cutoff = w.cutoff;
    over = over;
    overriding = overriding;
    floor = floor;
    taken = w.taken;
    last = w.last;
  }

  pub nothing_is_kept : g.count ≡ 0 → work_like 3 0 zero_key w.floor ≡ digest_work_by w g s
  unfolding digest_work_by
  nothing_is_kept h = rw (eq-eqb g.count 0 h)

  pub records_are_kept : (g.count ≡ 0 → ⊥) → (f : List ℕ) → f ≡ cond (is_set w.cut) w.cutoff w.floor → work_like 2 1 s f ≡ digest_work_by w g s
  unfolding digest_work_by
  records_are_kept h f e = rw (ne_eqb g.count 0 h, e)

either_floor : (b : Bool) (k f : List ℕ) → cond b k f ≡ or_else (key_if b k) f
either_floor true k f = refl
either_floor false k f = refl

pub the_work_after_a_digest : (w : Work) (ls : List (List Record)) (kept : List Record) (g : Gauge) (s : List ℕ) → g.count ≡ length kept → g.bytes ≡ total kept
    → s ≡ separator_after (separator_of w) ls kept → digest_work_by w g s ≡ digest_work w (record { leaves = ls; left = kept })
unfolding digest_work_by
the_work_after_a_digest w ls [] g s c b e = rw (c, b)
the_work_after_a_digest w ls (r ∷ rs) g s c b e =
    let h : g.count ≡ 0 → ⊥ = λ z. absurd (omega (arith, c)) in
    rw (ne_eqb g.count 0 h, c, b, e, ← either_floor (is_set w.cut) w.cutoff w.floor)
