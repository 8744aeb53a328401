-- Openings: their number, and what they leave. Assumes nothing.
use mathlib.Core.Path.{◌≡◌, refl, sym, ◌∙◌}
use mathlib.Core.Bool.{Bool, true, false, not}
use mathlib.Core.List.{List}
use Prim.Native.Nat.{ℕ}
use native.Mathlib.Omega.{arith}
use lib.Dec.{eqb}
use lib.ListN.{length, replicate}
use borrow.Author.Tests.{eq-eqb, ne_eqb, not-true, not-false}
use Rattle.std.specs.Prelude as std
use Rattle.std.specs.Borrow.{Bor}
use Rattle.std.specs.Option.{is_some}
use Rattle.bit_ops.specs.Steps.{zeros}
use Rattle.leaf_node.specs.Limits.{PageSize}
use Rattle.leaf_work.specs.declared.Work.{Work}
use Rattle.leaf_work.specs.declared.Entry.{Entry}
use Rattle.leaf_work.specs.Lent.{room_right, blank}
use Rattle.leaf_work.specs.Verdict.{unless, first, Opening, open_verdict}
use Rattle.leaf_work.specs.Outcome.{reply_number, fresh_work, open_work, Opened, Accepted, Refused, open_of}
use Rattle.leaf_base.proofs.Bases.{first_refused}
use Rattle.leaf_open.specs.declared.Base.{Base}
use Rattle.leaf_open.specs.Opening.{key_or_zeros, separator_lent, opening_lent, open_base_verdict}

pub a_page_has_4096_bytes : PageSize 4096
a_page_has_4096_bytes = record { least = omega arith; most = omega arith }

-- ---- the number

pub base_then_room : (size : ℕ) (list : List Entry) (store : List ℕ) (base : std.Option Base) (cutoff : std.Option (Bor (List ℕ))) → open_verdict size (opening_lent base cutoff) list store
    ≡ first (open_base_verdict size base cutoff) (unless 7 (room_right size (length list) (length store)) 0)
unfolding open_verdict opening_lent
base_then_room size list store (std.Some base) (std.Some cutoff) = refl
base_then_room size list store (std.Some base) std.None = refl
base_then_room size list store std.None (std.Some cutoff) = refl
base_then_room size list store std.None std.None = refl

module _ (size : ℕ) (base : std.Option Base) (cutoff : std.Option (Bor (List ℕ))) (list : List Entry) (store : List ℕ) (v : ℕ) (e : v ≡ open_base_verdict size base cutoff) where
  pub the_base_comes_first : (v ≡ 0 → ⊥) → v ≡ open_verdict size (opening_lent base cutoff) list store
  the_base_comes_first h = rw (base_then_room size list store base cutoff, ← e) (sym (first_refused v _ h))

  module _ (z : v ≡ 0) (t : Bool) (entries bytes : ℕ) (i : entries ≡ length list) (j : bytes ≡ length store) (r : t ≡ room_right size entries bytes) where
    q : t ≡ room_right size (length list) (length store)
    q = r ∙ rw (i, j)

    pub wrong_room_has_number_7 : not t ≡ true → 7 ≡ open_verdict size (opening_lent base cutoff) list store
    wrong_room_has_number_7 h = rw (base_then_room size list store base cutoff, ← e, z, ← q, not-true t h)

    pub right_room_is_accepted : not t ≡ false → 0 ≡ open_verdict size (opening_lent base cutoff) list store
    right_room_is_accepted h = rw (base_then_room size list store base cutoff, ← e, z, ← q, not-false t h)

-- ---- the outcome

pub fresh_work_is_open : (size : ℕ) (every : Bool) (base : std.Option Base) (cutoff : std.Option (Bor (List ℕ))) (list : List Entry) (store : List ℕ) → open_verdict size (opening_lent base cutoff) list store ≡ 0
    → fresh_work every (is_some (separator_lent base)) (key_or_zeros (separator_lent base)) (is_some cutoff) (key_or_zeros cutoff) ≡ open_work every (opening_lent base cutoff)
unfolding open_verdict opening_lent
fresh_work_is_open size every (std.Some base) (std.Some cutoff) list store e = refl
fresh_work_is_open size every (std.Some base) std.None list store e = refl
fresh_work_is_open size every std.None (std.Some cutoff) list store e = absurd (omega arith)
fresh_work_is_open size every std.None std.None list store e = refl

module _ (size : ℕ) (every : Bool) (x : Opening) (w : Work) (list : List Entry) (store : List ℕ) (v : ℕ) (e : v ≡ open_verdict size x list store) where
  pub refused_outcome : (v ≡ 0 → ⊥) → open_of size every x w list store ≡ record { reply = Refused v; work = w; list = list; store = store }
  unfolding open_of
  refused_outcome h = let f : eqb (open_verdict size x list store) 0 ≡ false = rw (← e) (ne_eqb v 0 h) in rw (f, open_of, e)

  pub a_refused_opening_changes_nothing : (v ≡ 0 → ⊥)
      → (let o : Opened = open_of size every x w list store in (v ≡ reply_number o.reply) × (w ≡ o.work) × (list ≡ o.list) × (store ≡ o.store))
  a_refused_opening_changes_nothing h = rw (refused_outcome h) (refl, refl, refl, refl)

  pub accepted_outcome : v ≡ 0
      → open_of size every x w list store ≡ record { reply = Accepted; work = open_work every x; list = replicate (length list) blank; store = zeros (length store) }
  unfolding open_of
  accepted_outcome z = let f : eqb (open_verdict size x list store) 0 ≡ true = rw (← e) (eq-eqb v 0 z) in rw (f, open_of)

module _ (size : ℕ) (every : Bool) (base : std.Option Base) (cutoff : std.Option (Bor (List ℕ))) (w : Work) (list : List Entry) (store : List ℕ)
    (z : 0 ≡ open_verdict size (opening_lent base cutoff) list store) where
  pub an_accepted_opening_clears_all : (r : Work) (list' : List Entry) (store' : List ℕ)
      → r ≡ fresh_work every (is_some (separator_lent base)) (key_or_zeros (separator_lent base)) (is_some cutoff) (key_or_zeros cutoff)
      → list' ≡ replicate (length list) blank → store' ≡ replicate (length store) 0
      → (let o : Opened = open_of size every (opening_lent base cutoff) w list store in (0 ≡ reply_number o.reply) × (r ≡ o.work) × (list' ≡ o.list) × (store' ≡ o.store))
  an_accepted_opening_clears_all r list' store' f l m =
      rw (accepted_outcome size every (opening_lent base cutoff) w list store 0 z refl) (refl, f ∙ fresh_work_is_open size every base cutoff list store (sym z), l, m)
