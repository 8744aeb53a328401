-- Where giving leaves begins, and step 4: what is left is kept, or is one more leaf. Assumes nothing.
use mathlib.Core.Path.{◌≡◌, refl, sym, ◌∙◌}
use mathlib.Core.Bool.{Bool, true, false, not, ◌&&◌, true≢false}
use Rattle.std.specs.Prelude.{None, Some}
use mathlib.Core.List.{List}
use Prim.Native.Nat.{ℕ, ◌-◌, ◌≤◌}
use borrow.Author.Tests.{eqb-true, eqb-false, not-true}
use lib.Dec.{eqb, ltb}
use lib.ListN.{length}
use Rattle.leaf_node.specs.Limits.{merge_below}
use Rattle.leaf_model.proofs.Tests.{and_left, and_right}
use Rattle.leaf_work.specs.declared.Entry.{Entry}
use Rattle.leaf_work.specs.declared.Work.{Work}
use Rattle.leaf_work.specs.Tests.{is_set}
use Rattle.leaf_work.specs.Lent.{cutoff_of}
use Rattle.leaf_cut.specs.Sizes.{body_of}
use Rattle.leaf_cut.specs.Records.{span_of}
use Rattle.leaf_give.specs.declared.Progress.{Progress}
use Rattle.leaf_give.specs.declared.Beginning.{Beginning}
use Rattle.leaf_give.specs.Steps.{LeafThere, LeafGiven, BegunBy}
use Rattle.leaf_give.proofs.Finishing.{giving_begins, a_target_is_fixed, nothing_is_cut, nothing_is_left, few_records_are_left, few_bytes_are_left, the_rest_waits, the_last_leaf_can_be_given, the_last_leaf_is_given}
use Rattle.digest_leaf.specs.declared.Pending.{Pending}
use Rattle.digest_leaves.specs.Leaves.{is_last, LeavesAsked, LeavesGiven, AllCut, CutAsked}

module _ (size : ℕ) (q : Pending) (area tickets : List ℕ) (g : LeavesAsked size q area tickets) where
  abbrev w : Work
  w = q.work.now

  abbrev list : List Entry
  list = q.list.now

  abbrev store : List ℕ
  store = q.store.now

  abbrev page : List ℕ
  page = q.node.page.now

  module _ (b : Beginning) (m : BegunBy size w page q.node.n b) where
    pub cutting_asks : (target : ℕ) → b.target ≡ Some target → CutAsked size q area tickets b.start target
    cutting_asks target c = record {
      gives = g;
      target_is = a_target_is_fixed size w list store page area tickets g q.node.n q.node.counted.counted b m target c;
      begun = giving_begins size w list store page area tickets g q.node.n q.node.counted.counted b m;
    }

    pub no_leaf_is_cut : b.target ≡ None → AllCut size q area tickets b.start area tickets
    no_leaf_is_cut c = nothing_is_cut size w list store page area tickets g q.node.n q.node.counted.counted b m c

  -- ---- the end

  module _ (p : Progress) (a t : List ℕ) (o : AllCut size q area tickets p a t) where
    pub the_last_asks : (p.left.count ≤ 98304) × (p.left.bytes ≤ 98304)
    the_last_asks = (
      few_records_are_left size w list store page area tickets g p a t o,
      few_bytes_are_left size w list store page area tickets g p a t o,
    )

    abbrev some : Bool
    some = not (eqb p.left.count 0)

    abbrev waiting : Bool
    waiting = is_set w.cut && ltb (body_of p.left) (merge_below size)

    module _ (x : Bool) (ex : x ≡ is_last size w p) where
      pub what_is_left_is_kept : x ≡ false → LeavesGiven size q area tickets p a t
      what_is_left_is_kept f = go (eqb p.left.count 0) refl waiting refl
        where
          go : (b : Bool) → eqb p.left.count 0 ≡ b → (c : Bool) → waiting ≡ c → LeavesGiven size q area tickets p a t
          go true z c h = nothing_is_left size w list store page area tickets g p a t o (eqb-true p.left.count 0 z)
          go false z true h = the_rest_waits size w list store page area tickets g p a t o waiting refl h
          go false z false h = absurd (true≢false (sym (rw (z, h)) ∙ sym ex ∙ f))

      module _ (l : x ≡ true) where
        both : (some && not waiting) ≡ true
        both = sym ex ∙ l

        waits_not : waiting ≡ false
        waits_not = not-true waiting (and_right some (not waiting) both)

        some_left : p.left.count ≡ 0 → ⊥
        some_left = eqb-false p.left.count 0 (not-true (eqb p.left.count 0) (and_left some (not waiting) both))

        pub the_last_can_be_given : LeafThere size list store page (span_of w) p p.left (record { entry = w.used; skip = q.node.n - w.low }) (length a) (length t)
        the_last_can_be_given = the_last_leaf_can_be_given size w list store page area tickets g p a t o waiting refl waits_not some_left q.node.n q.node.counted.counted

        pub the_last_is_given : (r : Progress) (a' t' : List ℕ) → LeafGiven size list store page (span_of w) p p.left (record { entry = w.used; skip = q.node.n - w.low }) (cutoff_of w) a t r a' t'
            → LeavesGiven size q area tickets r a' t'
        the_last_is_given r a' t' m = the_last_leaf_is_given size w list store page area tickets g p a t o waiting refl waits_not some_left q.node.n q.node.counted.counted r a' t' m
