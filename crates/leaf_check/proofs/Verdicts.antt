-- Nos. 1 to 9 in their order. Assumes nothing.
use mathlib.Core.Path.{◌≡◌, refl, sym, ◌∙◌}
use mathlib.Core.Bool.{Bool, true, false, not, ◌&&◌, cond}
use mathlib.Core.List.{List, []}
use Prim.Native.Nat.{ℕ, ◌+◌, ◌≤◌}
use native.Mathlib.Omega.{arith}
use lib.Dec.{eqb, leb}
use lib.ListN.{length}
use borrow.Author.Tests.{eq-eqb, ne_eqb, eqb-true, eqb-false, leb-true, not-true, not-false}
use Rattle.refusal.specs.Refusal.{accepted, room_length, out_of_turn, unsound}
use Rattle.leaf_node.specs.Limits.{PageSize, record_limit}
use Rattle.leaf_model.proofs.Tests.{and_left, and_right}
use Rattle.leaf_work.specs.declared.Work.{Work}
use Rattle.leaf_work.specs.declared.Entry.{Entry}
use Rattle.leaf_work.specs.Lent.{most_entries, most_store_bytes, room_right, is_open, cutoff_of, reads_base, regarded}
use Rattle.leaf_work.specs.Sound.{sound}
use Rattle.leaf_work.specs.Verdict.{unless, first, keys_verdict, lent_page_verdict, lent_verdict, closed_verdict}
use Rattle.leaf_work.proofs.BasePages.{lent_page_is_good}
use Rattle.leaf_base.proofs.Bases.{first_refused}
use Rattle.leaf_check.specs.Settled.{Regardable, sound_by}
use Rattle.leaf_check.proofs.Decided.{the_pass_decides}

-- ---- No. 7

module _ (size entries bytes : ℕ) (t : Bool) (e : t ≡ room_right size entries bytes) (h : not t ≡ false) where
  right : room_right size entries bytes ≡ true
  right = rw (← e) (not-false t h)

  pub few_bytes : bytes ≤ 65536
  few_bytes = leb-true bytes most_store_bytes (and_right (leb (record_limit size + 1) entries && leb entries most_entries && leb size bytes) _ right)

  pub few_entries : entries ≤ 4096
  few_entries =
      leb-true entries most_entries (and_right (leb (record_limit size + 1) entries) _
      (and_left (leb (record_limit size + 1) entries && leb entries most_entries) _
      (and_left (leb (record_limit size + 1) entries && leb entries most_entries && leb size bytes) _ right)))

-- ---- Nos. 1 to 8

module _ (size : ℕ) (w : Work) (list : List Entry) (store page : List ℕ) (v : ℕ) (e : v ≡ lent_page_verdict size w page) where
  pub the_page_is_refused : (v ≡ 0 → ⊥) → v ≡ lent_verdict size w list store page
  unfolding lent_verdict
  the_page_is_refused h = rw (← e, ne_eqb v 0 h, first) e

  module _ (z : v ≡ 0) where
    pub the_regarded_is_good : (p : List ℕ) → p ≡ regarded w page → Regardable size p
    the_regarded_is_good p k = rw k (go (reads_base w) (sym e ∙ z))
      where
        go : (b : Bool) → cond b (keys_verdict size page w.latest (cutoff_of w)) 0 ≡ 0 → Regardable size (cond b page [])
        go true q = record { good = λ h. lent_page_is_good size page w.latest (cutoff_of w) q }
        go false q = record { good = λ h. absurd (omega (arith, h)) }

    module _ (t : Bool) (f : t ≡ room_right size (length list) (length store)) where
      pub the_room_is_refused : not t ≡ true → room_length ≡ lent_verdict size w list store page
      unfolding lent_verdict
      the_room_is_refused h = rw (← e, eq-eqb v 0 z, first, ← f, not-true t h)

      module _ (h : not t ≡ false) (p : List ℕ) (k : p ≡ regarded w page) (s : Bool) (g : s ≡ sound size w list store p) where
        pub the_work_is_refused : not s ≡ true → unsound ≡ lent_verdict size w list store page
        unfolding lent_verdict
        the_work_is_refused i = rw (← e, eq-eqb v 0 z, first, ← f, not-false t h, ← k, ← g, not-true s i)

        pub all_passes : not s ≡ false → accepted ≡ lent_verdict size w list store page
        unfolding lent_verdict
        all_passes i = rw (← e, eq-eqb v 0 z, first, ← f, not-false t h, ← k, ← g, not-false s i)

pub nothing_is_regarded : (size : ℕ) (p : List ℕ) → p ≡ [] → Regardable size p
nothing_is_regarded size p e = rw e (record { good = λ h. absurd (omega (arith, h)) })

-- ---- the numbers by what the pass over the entries comes to, as the code finds it: they are those of the definitions

module _ (size : ℕ) (q : PageSize size) (w : Work) (list : List Entry) (store : List ℕ) where
  pub a_pass_tells_the_refusal : (page : List ℕ)
      → first (lent_page_verdict size w page)
      (unless room_length (room_right size (length list) (length store)) (unless unsound (sound_by size w list store (regarded w page)) accepted))
      ≡ lent_verdict size w list store page
  unfolding lent_verdict
  a_pass_tells_the_refusal page = go (eqb (lent_page_verdict size w page) 0) refl
    where
      v : ℕ
      v = lent_page_verdict size w page

      go : (b : Bool) → eqb v 0 ≡ b
          → first v (unless room_length (room_right size (length list) (length store)) (unless unsound (sound_by size w list store (regarded w page)) accepted))
          ≡ first v (unless room_length (room_right size (length list) (length store)) (unless unsound (sound size w list store (regarded w page)) accepted))
      go true e = rw (the_pass_decides size q w list store (regarded w page) (the_regarded_is_good size w list store page v refl (eqb-true v 0 e) (regarded w page) refl)) refl
      go false e = let h = eqb-false v 0 e in first_refused v _ h ∙ sym (first_refused v _ h)

  pub a_pass_tells_a_closed_refusal :
      unless room_length (room_right size (length list) (length store)) (unless out_of_turn (not (is_open w)) (unless unsound (sound_by size w list store []) accepted))
      ≡ closed_verdict size w list store accepted
  a_pass_tells_a_closed_refusal = rw (the_pass_decides size q w list store [] (nothing_is_regarded size [] refl)) refl
