-- The records of an entry are raised, the last one first. Assumes nothing.
use mathlib.Core.Path.{◌≡◌, refl, sym, ap, ◌∙◌}
use mathlib.Core.Logic.{inl, inr}
use mathlib.Core.Bool.{Bool, true, false, cond}
use mathlib.Core.List.{List, [], ◌∷◌, ◌++◌}
use Prim.Native.Nat.{ℕ, ◌+◌, ◌-◌, ◌≤◌, ◌<◌}
use native.Mathlib.Omega.{arith}
use lib.ListN.{length, set}
use borrow.Author.Tests.{eq-eqb, ne_eqb}
use Rattle.leaf_node.specs.Record.{Record, values, total}
use Rattle.leaf_node.specs.Page.{records_between}
use Rattle.leaf_work.specs.declared.Entry.{Entry}
use Rattle.leaf_work.specs.Lent.{an_insert}
use Rattle.leaf_work.specs.Tests.{is_zero}
use Rattle.leaf_work.specs.Pending.{held, records_in}
use Rattle.leaf_cut.specs.Records.{entry_records}
use Rattle.leaf_cut.proofs.Parts.{an_insert_holds_itself, a_chunk_holds_its_records}
use Rattle.leaf_builder.proofs.Writing.{records_none, total_one}
use Rattle.leaf_builder.proofs.Rebuilding.{records_join}
use Rattle.leaf_write.specs.Filling.{insert_record}
use Rattle.leaf_move.specs.Moving.{under}
use Rattle.leaf_move.proofs.Under.{under_none}
use Rattle.leaf_raise.specs.declared.Top.{Top}
use Rattle.leaf_raise.specs.Raising.{lower_by, Room, Raised, EntryBelow}
use Rattle.leaf_raise.proofs.Raising.{a_moved_record_is_raised, nothing_is_raised, below_no_record, room_for_the_last, tops_join, room_is_left, both_are_raised}
use Rattle.leaf_raise.proofs.Sources.{range_cons}
use Rattle.digest_keep.specs.declared.Lifted.{Lifted}
use Rattle.digest_keep.specs.Lifting.{lifted_of, last_record, LastThere, Raisable}
use Rattle.digest_keep.proofs.Lists.{either_kind}

-- ---- the last records of an entry

-- its last i records
unfoldable pub last_records : List ℕ → List ℕ → Entry → ℕ → List Record
last_records store page e i = cond (an_insert e) (cond (is_zero i) [] (insert_record store e ∷ [])) (records_between page (e.to - i) e.to)

module _ (store page : List ℕ) (e : Entry) (top : Top) (below : EntryBelow page e 0 top) where
  abbrev all : List Record
  all = entry_records store page e 0

  abbrev last : ℕ → List Record
  last i = last_records store page e i

  none : last 0 ≡ []
  unfolding last_records
  none = go (an_insert e) refl
    where
      go : (b : Bool) → an_insert e ≡ b → cond b [] (records_between page (e.to - 0) e.to) ≡ []
      go true q = refl
      go false q = let z : e.to - 0 ≡ e.to = omega arith in rw z (records_none page e.to)

  module _ (k : e.kind ≡ 1) where
    one : records_in e ≡ 1
    one = rw (records_in, eq-eqb e.kind 1 k)

    it_alone : all ≡ insert_record store e ∷ []
    unfolding insert_record held
    it_alone = an_insert_holds_itself store page e 0 k refl

    last_one : last 1 ≡ insert_record store e ∷ []
    unfolding last_records
    last_one = rw (eq-eqb e.kind 1 k)

  module _ (n : e.kind ≡ 1 → ⊥) where
    so_many : records_in e ≡ e.to - e.from
    so_many = rw (records_in, ne_eqb e.kind 1 n)

    order : e.from ≤ e.to
    order = omega (arith, (below.chunk n).order)

    its_range : all ≡ records_between page e.from e.to
    its_range =
        let z : e.from + 0 ≡ e.from = omega arith in
        a_chunk_holds_its_records store page e 0 n (below.chunk n).order ∙ ap (λ (i : ℕ). records_between page i e.to) z

    last_range : (i : ℕ) → last i ≡ records_between page (e.to - i) e.to
    unfolding last_records
    last_range i = rw (ne_eqb e.kind 1 n)

  all_are_last : last (records_in e) ≡ all
  all_are_last = elim (either_kind e) [
    | inl k ↦ ap last (one k) ∙ last_one k ∙ sym (it_alone k)
    | inr n ↦
        let z : e.to - (e.to - e.from) ≡ e.from = omega (arith, order n) in
        ap last (so_many n) ∙ last_range n (e.to - e.from) ∙ ap (λ (i : ℕ). records_between page i e.to) z ∙ sym (its_range n)
  ]

  module _ (i : ℕ) (less : i < records_in e) where
    first_of_all : e.kind ≡ 1 → i ≡ 0
    first_of_all k = omega (arith, one k, less)

    one_more : last (i + 1) ≡ (last_record store page e i ∷ []) ++ last i
    unfolding last_record
    one_more = elim (either_kind e) [
      | inl k ↦
          let z : i + 1 ≡ 1 = omega (arith, first_of_all k) in
          ap last z ∙ last_one k ∙ rw (eq-eqb e.kind 1 k, first_of_all k, none)
      | inr n ↦
          let a : e.to - (i + 1) ≡ e.to - i - 1 = omega arith in
          let b : e.to - 1 - i ≡ e.to - i - 1 = omega arith in
          last_range n (i + 1) ∙ ap (λ (j : ℕ). records_between page j e.to) a ∙ range_cons page (e.to - i) e.to (omega (arith, so_many n)) (omega arith)
          ∙ rw (ne_eqb e.kind 1 n, b, last_range n i)
    ]

    -- those before them
    before : List Record
    before = cond (an_insert e) [] (records_between page e.from (e.to - (i + 1)))

    together : all ≡ before ++ ((last_record store page e i ∷ []) ++ last i)
    unfolding before
    together = elim (either_kind e) [
      | inl k ↦
          let z : i + 1 ≡ 1 = omega (arith, first_of_all k) in
          rw (eq-eqb e.kind 1 k) (it_alone k ∙ sym (last_one k) ∙ ap last (sym z) ∙ one_more)
      | inr n ↦
          rw (ne_eqb e.kind 1 n) (its_range n ∙ records_join page e.from (e.to - (i + 1)) e.to (omega (arith, so_many n)) (omega arith)
          ∙ ap (λ (x : List Record). records_between page e.from (e.to - (i + 1)) ++ x) (sym (last_range n (i + 1)) ∙ one_more))
    ]

-- ---- what is raised

module _ (list₀ : List Entry) (store₀ page : List ℕ) (e : Entry) (start : Top)
    (req : Raisable list₀ store₀ page e start) (records : ℕ) (many : records ≡ records_in e) where
  -- its last i records are
  pub record EntryRaised (list : List Entry) (store : List ℕ) (top : Top) (i : ℕ) : Type 0 where
    pub upto : i ≤ records
    pub raised : Raised list₀ store₀ start (last_records store₀ page e i) list store
    pub top_is : top ≡ lower_by start (length (last_records store₀ page e i)) (total (last_records store₀ page e i))

  pub no_record_is_raised : EntryRaised list₀ store₀ start 0
  no_record_is_raised =
      let z = none store₀ page e start req.below in
      record {
        upto = omega arith;
        raised = rw z (nothing_is_raised list₀ store₀ start);
        top_is = rw z (below_no_record start);
      }

  module _ (list : List Entry) (store : List ℕ) (top : Top) (i : ℕ) (w : EntryRaised list store top i) where
    pub the_entry_is_raised : records ≤ i
        → (Raised list₀ store₀ start (entry_records store₀ page e 0) list store)
        × (top ≡ lower_by start (length (entry_records store₀ page e 0)) (total (entry_records store₀ page e 0)))
    the_entry_is_raised past =
        let q : last_records store₀ page e i ≡ entry_records store₀ page e 0 =
        ap (last_records store₀ page e) (omega (arith, past, w.upto, many)) ∙ all_are_last store₀ page e start req.below in
        (rw q at w.raised, rw q at w.top_is)

    module _ (less : i < records) where
      less_in : i < records_in e
      less_in = omega (arith, less, many)

      abbrev r : Record
      r = last_record store₀ page e i

      abbrev done : List Record
      done = last_records store₀ page e i

      part_room : Room list₀ store₀ start ((r ∷ []) ++ done)
      part_room =
          let t = together store₀ page e start req.below i less_in in
          let q : Room list₀ store₀ start (before store₀ page e start req.below i less_in ++ ((r ∷ []) ++ done)) = rw t at req.room in
          room_for_the_last list₀ store₀ start (before store₀ page e start req.below i less_in) ((r ∷ []) ++ done) q

      room : Room list store top (r ∷ [])
      room = rw w.top_is (room_is_left list₀ store₀ start (r ∷ []) done part_room list store w.raised)

      -- of an insert nothing is raised yet
      module _ (k : e.kind ≡ 1) where
        nothing_done : done ≡ []
        nothing_done = ap (last_records store₀ page e) (first_of_all store₀ page e start req.below i less_in k) ∙ none store₀ page e start req.below

        same_store : store ≡ store₀
        unfolding values
        same_store = w.raised.store_is ∙ rw nothing_done (under_none store₀ start.at)

        same_top : top.at ≡ start.at
        unfolding total
        same_top = ap (λ (t : Top). t.at) w.top_is ∙ rw nothing_done (omega arith)

      same_record : last_record store page e i ≡ r
      unfolding last_record
      same_record = elim (either_kind e) [
        | inl k ↦ rw (eq-eqb e.kind 1 k, same_store k)
        | inr n ↦ rw (ne_eqb e.kind 1 n)
      ]

      pub the_last_is_there : LastThere store page e i top
      the_last_is_there = record {
        insert = λ k. let b = (req.below.insert k).1 in record { order = b.order; there = omega (arith, b.there, same_top k) };
        chunk = λ n. let b = req.below.chunk n in record { there = omega (arith, b.there, so_many store₀ page e start req.below n, less_in); laid = b.laid (omega (arith, so_many store₀ page e start req.below n, less_in)) };
        within = λ n. omega (arith, so_many store₀ page e start req.below n, less_in);
        room = rw same_record (record {
          entry = omega (arith, room.few);
          place = omega (arith, room.short, total_one r);
          fits = omega (arith, room.fits, total_one r);
          store_in = room.store_in;
        });
      }

      pub one_more_is_raised : (l : Lifted) (store' : List ℕ) (list' : List Entry) → (l ≡ lifted_of top (last_record store page e i)) × (store' ≡ under store top.at (last_record store page e i).value)
          → list' ≡ set list l.top.entry l.entry → EntryRaised list' store' l.top (i + 1)
      one_more_is_raised l store' list' f g =
          let fl : l ≡ lifted_of top r = rw same_record at f.0 in
          let fs : store' ≡ under store top.at r.value = rw same_record at f.1 in
          let lt : l.top ≡ lower_by top 1 (length r.value) = ap (λ (x : Lifted). x.top) fl in
          let one : Raised list store top (r ∷ []) list' store' =
          a_moved_record_is_raised list store top r room l.top lt list' store' (g ∙ ap (λ (x : Lifted). set list l.top.entry x.entry) fl ∙ rw lt) fs in
          let one' : Raised list store (lower_by start (length done) (total done)) (r ∷ []) list' store' = rw w.top_is at one in
          let m = one_more store₀ page e start req.below i less_in in
          record {
            upto = omega (arith, less);
            raised = rw m (both_are_raised list₀ store₀ start (r ∷ []) done part_room list store w.raised list' store' one');
            top_is =
                rw m (lt ∙ ap (λ (n : ℕ). lower_by top 1 n) (sym (total_one r)) ∙ ap (λ (t : Top). lower_by t 1 (total (r ∷ []))) w.top_is
                ∙ tops_join list₀ store₀ start (r ∷ []) done part_room);
          }
