-- A leaf that goes from entry to entry of the list until it is cut, and else through the base's rest. Assumes nothing.
use mathlib.Core.Path.{◌≡◌, sym, ap, ◌∙◌}
use mathlib.Core.Bool.{true, false}
use mathlib.Core.List.{List}
use Prim.Native.Nat.{ℕ, ◌+◌, ◌-◌, ◌≤◌, ◌<◌}
use native.Mathlib.Omega.{arith}
use lib.ListN.{get_or}
use Rattle.leaf_node.specs.Page.{count, length_at, run}
use Rattle.leaf_work.specs.declared.Entry.{Entry}
use Rattle.leaf_work.specs.Lent.{blank}
use Rattle.leaf_cut.specs.declared.Aim.{Aim}
use Rattle.leaf_cut.specs.declared.Gauge.{Gauge}
use Rattle.leaf_cut.specs.declared.Span.{Span}
use Rattle.leaf_cut.specs.declared.Cursor.{Cursor}
use Rattle.leaf_cut.specs.declared.Taken.{Taken}
use Rattle.leaf_cut.specs.Sizes.{cut_sizes, sizes_behind, count_behind, passed_by}
use Rattle.leaf_cut.specs.Steps.{Leaf, Spread, EntryAt, Walked, Leafed}
use Rattle.leaf_cut.proofs.Walking.{the_entry_has_records, the_leaf_ends_in_the_entry, all_taken, the_leaf_goes_on, the_leaf_ends_in_the_rest}

module _ (a : Aim) (list : List Entry) (page : List ℕ) (s : Span) (start : Cursor) where
  -- before entry i
  pub record Upon (at : Cursor) (leaf : Gauge) (i : ℕ) : Type 0 where
    pub here : at.entry ≡ i
    pub walked : Walked a list page s start at leaf

  module _ (spread : Spread list page s) where
    module _ (at : Cursor) (leaf : Gauge) (i : ℕ) (k : Upon at leaf i) where
      module _ (l : i < s.used) (e : Entry) (q : e ≡ get_or list i blank) where
        inside : at.entry < s.used
        inside = omega (arith, k.here)

        is_here : get_or list at.entry blank ≡ e
        is_here = ap (λ (j : ℕ). get_or list j blank) k.here ∙ sym q

        pub a_turn_asks : (n : ℕ) → n ≡ count page → (EntryAt n e at) × (Leaf a leaf)
        a_turn_asks n c = (rw (c, ← is_here) (the_entry_has_records a list page s spread start at leaf k.walked inside), k.walked.room)

        module _ (r : Taken) (f : r.end ≡ cut_sizes a.limit a.target leaf.count leaf.bytes (sizes_behind page e at.skip)) (g : r.at ≡ passed_by at (count_behind e at.skip) (r.end.leaf.count - leaf.count)) where
          ends : r.end ≡ cut_sizes a.limit a.target leaf.count leaf.bytes (sizes_behind page (get_or list at.entry blank) at.skip)
          ends = rw is_here f

          passes : r.at ≡ passed_by at (count_behind (get_or list at.entry blank) at.skip) (r.end.leaf.count - leaf.count)
          passes = rw is_here g

          pub the_leaf_is_cut : r.end.cut ≡ true → Leafed a list page s start r
          the_leaf_is_cut c = the_leaf_ends_in_the_entry a list page s spread start at leaf k.walked inside r ends passes c

          pub upon_next : r.end.cut ≡ false → Upon r.at r.end.leaf (i + 1)
          upon_next c = record {
            here = omega (arith, ap (λ (x : Cursor). x.entry) (all_taken a list page s spread start at leaf k.walked inside r ends passes c), k.here);
            walked = the_leaf_goes_on a list page s spread start at leaf k.walked inside r ends passes c;
          }

      module _ (past : s.used ≤ i) where
        pub upon_last : (r : Taken) → r.end ≡ cut_sizes a.limit a.target leaf.count leaf.bytes (run (count page - (s.low + at.skip)) (s.low + at.skip) (length_at page))
            → r.at ≡ record { entry = s.used; skip = at.skip + (r.end.leaf.count - leaf.count) } → Leafed a list page s start r
        upon_last r f g = the_leaf_ends_in_the_rest a list page s spread start at leaf k.walked (omega (arith, k.here)) r f g
