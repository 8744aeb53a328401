-- One leaf off the list: its page, the key behind it, its ticket. Assumes nothing.
use mathlib.Core.Path.{◌≡◌, refl}
use mathlib.Core.Option.{Option, none, some}
use mathlib.Core.List.{List, ◌++◌}
use Prim.Native.Nat.{ℕ, ◌+◌, ◌-◌, ◌*◌, ◌≤◌}
use lib.ListN.{length, take, drop}
use Rattle.leaf_node.specs.Page.{pointer}
use Rattle.leaf_node.specs.Build.{put, build}
use Rattle.leaf_work.specs.declared.Entry.{Entry}
use Rattle.leaf_cut.specs.declared.Gauge.{Gauge}
use Rattle.leaf_cut.specs.declared.Cursor.{Cursor}
use Rattle.leaf_cut.specs.declared.Span.{Span}
use Rattle.leaf_cut.specs.Records.{records_from}
use Rattle.leaf_write.specs.Filling.{key_from}
use Rattle.leaf_give.specs.declared.Progress.{Progress}
use Rattle.leaf_give.specs.Steps.{progress_of, separator_behind, LastKeyThere, TicketGiven, LeafThere, LeafGiven}
use Rattle.leaf_give.proofs.OneLeaf.{a_page_is_put, the_last_key_is_there, a_leaf_is_given}

-- a list with zs in the place of the k elements from index a on
abbrev pub put_part : ℕ → ℕ → List ℕ → List ℕ → List ℕ
put_part a k ys zs = take a ys ++ (zs ++ drop k (drop a ys))

module _ (size : ℕ) (list : List Entry) (store page : List ℕ) (s : Span) (p : Progress) (leaf : Gauge) (at : Cursor) (area tickets : List ℕ)
    (h : LeafThere size list store page s p leaf at (length area) (length tickets)) where
  module _ (x : List ℕ) (q : x ≡ build (length (take (p.leaves * size + size - p.leaves * size) (drop (p.leaves * size) area))) (take leaf.count (records_from s list store page p.at))) where
    abbrev built : List ℕ
    built = put_part (p.leaves * size) (p.leaves * size + size - p.leaves * size) area x

    put_is : built ≡ put area (p.leaves * size) (build size (take leaf.count (records_from s list store page p.at)))
    put_is = a_page_is_put area (p.leaves * size) size h.page_room_lem leaf (records_from s list store page p.at) h.fits x q

    -- the leaf's page
    abbrev pub part : List ℕ
    part = take (p.leaves * size + size - p.leaves * size) (drop (p.leaves * size) (put_part (p.leaves * size) (p.leaves * size + size - p.leaves * size) area x))

    pub the_last_key_can_be_read : pointer (leaf.count - 1 + 1) ≤ length part
    the_last_key_can_be_read = the_last_key_is_there size list store page s p leaf at (length area) (length tickets) h area built refl put_is

    pub the_page_has_the_last_key : (first : Option (List ℕ)) → LastKeyThere part leaf first
    the_page_has_the_last_key none = tt
    the_page_has_the_last_key (some key) = (h.some_record, the_last_key_can_be_read)

    pub a_leaf_and_its_ticket_are_given : (cutoff first : Option (List ℕ)) (r : Progress) (t : List ℕ) → first ≡ key_from s list page at → r ≡ progress_of p leaf at r.place r.separator
        → TicketGiven (separator_behind part leaf first) cutoff tickets p.place p.separator r.place r.separator t → LeafGiven size list store page s p leaf at cutoff area tickets r built t
    a_leaf_and_its_ticket_are_given cutoff first r t k e g =
        a_leaf_is_given size list store page s p leaf at (length area) (length tickets) h area built refl put_is cutoff tickets first r t k e g
