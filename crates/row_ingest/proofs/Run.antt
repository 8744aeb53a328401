-- The changes of a leaf, one after another: what has been taken so far leads to what all of them come to. Assumes nothing.
use mathlib.Core.Path.{◌≡◌, refl, sym, ap, subst, ◌∙◌}
use mathlib.Core.List.{List, [], ◌∷◌}
use Prim.Native.Nat.{ℕ, zero, suc, ◌+◌, ◌≤◌, ◌<◌}
use native.Mathlib.Omega.{arith}
use lib.ListN.{length, get_or, drop}
use lib.Seq.{drop-drop}
use borrow.Author.Tests.{ne_eqb}
use Rattle.std.specs.Prelude.{Result, Ok, Err}
use Rattle.refusal.specs.declared.Refusal.{Refusal}
use Rattle.refusal.specs.Numbers.{number, number_of}
use Rattle.refusal.proofs.Refused.{refused}
use Rattle.leaf_node.specs.Record.{Record}
use Rattle.leaf_model.specs.Tally.{changed}
use Rattle.leaf_work.specs.declared.Work.{Work}
use Rattle.leaf_work.specs.declared.Entry.{Entry}
use Rattle.leaf_work.specs.Lent.{cutoff_of, separator_of}
use Rattle.leaf_work.specs.Pending.{pending_of}
use Rattle.leaf_work.specs.Verdict.{first}
use Rattle.leaf_work.specs.Ready.{Ready}
use Rattle.leaf_work.specs.Outcome.{ingest_number, Ingested}
use Rattle.leaf_ingest.proofs.Ingests.{accepted_things_take_an_ingest}
use Rattle.leaf_open.proofs.Openings.{a_page_has_4096_bytes}
use Rattle.row_turns.specs.Changes.{Edit, changed_all}
use Rattle.row_turns.specs.Turns.{room_verdict, rooms_verdict}
use Rattle.row_changes.specs.Packed.{key_of, value_length, change_of, edits_of}
use Rattle.row_changes.specs.Tests.{values_length}
use Rattle.row_work.specs.Loaded.{Loaded, Stays}
use Rattle.row_work.proofs.Ingesting as ingesting
use Rattle.row_ingest.specs.declared.Taking.{Taking}
use Rattle.row_ingest.specs.Taking.{ChangeThere, ingested_by, ChangeTaken, ChangesThere, ChangesTaken}

-- the first element of what is left, and the rest
split_off : (d : List ℕ) (xs : List (List ℕ)) (i : ℕ) → i < length xs → drop i xs ≡ get_or xs i d ∷ drop (i + 1) xs
split_off d [] i h = absurd (omega arith)
split_off d (x ∷ xs) zero h = refl
split_off d (x ∷ xs) (suc i) h = let n : suc (i + 1) ≡ suc i + 1 = omega arith in split_off d xs i (omega arith) ∙ ap (λ (m : ℕ). get_or xs i d ∷ drop m (x ∷ xs)) n

first_refused : (n y : ℕ) → (n ≡ 0 → ⊥) → first n y ≡ n
first_refused n y e = rw (ne_eqb n 0 e, first)

module _ (w : Work) (list : List Entry) (store page : List ℕ) (changes : List (List ℕ)) (values : List ℕ) (h : ChangesThere w list store page changes values) where
  -- the edits that are still to come, from change i on, whose value begins at v
  abbrev edits : ℕ → ℕ → List Edit
  edits i v = edits_of (drop i changes) (drop v values)

  abbrev P : List Record
  P = pending_of w list store page

  -- the refusal that all of them come to
  abbrev whole : ℕ
  whole = rooms_verdict (length list) (length store) (edits_of changes values) P

  -- none was refused up to change i: the work goes on to the same records
  pub record TakenTo (t : Taking) (list' : List Entry) (store' : List ℕ) (i : ℕ) : Type 0 where
    pub list_long : length list' ≡ length list
    pub store_long : length store' ≡ length store
    pub rooms_are : rooms_verdict (length list) (length store) (edits i t.value) (pending_of t.work list' store' page) ≡ whole
    pub within : i ≤ length changes
    pub value_is : t.value + values_length (drop i changes) ≡ values_length changes
    pub loaded : Loaded 4096 t.work list' store' page (edits i t.value)
    pub separator : separator_of t.work ≡ separator_of w
    pub cutoff : cutoff_of t.work ≡ cutoff_of w
    pub ends : changed_all (edits i t.value) (pending_of t.work list' store' page) ≡ changed_all (edits_of changes values) P

  module _ (t : Taking) (list' : List Entry) (store' : List ℕ) (i : ℕ) (k : TakenTo t list' store' i) where
    -- ---- one more; d is what the loop reads past the end

    module _ (d : List ℕ) (less : i < length changes) where
      abbrev c : List ℕ
      c = get_or changes i d

      left_is : drop i changes ≡ c ∷ drop (i + 1) changes
      left_is = split_off d changes i (omega (arith, less))

      abbrev e : Edit
      e = record { key = key_of c; change = change_of c (drop t.value values) }

      abbrev later : List Edit
      later = edits (i + 1) (t.value + value_length c)

      edits_are : edits i t.value ≡ e ∷ later
      edits_are =
          ap (λ (cs : List (List ℕ)). edits_of cs (drop t.value values)) left_is
          ∙ ap (λ (v : List ℕ). e ∷ edits_of (drop (i + 1) changes) v) (drop-drop (value_length c) t.value values)

      loaded_here : Loaded 4096 t.work list' store' page (e ∷ later)
      loaded_here = subst (Loaded 4096 t.work list' store' page) edits_are k.loaded

      values_are : t.value + (value_length c + values_length (drop (i + 1) changes)) ≡ values_length changes
      values_are = ap (λ (cs : List (List ℕ)). t.value + values_length cs) (sym left_is) ∙ k.value_is

      pub the_change_is_there : ChangeThere t list' store' page c values
      the_change_is_there = record { ready = ready; value_there = omega (arith, values_are, h.values_there) }
        where
          ready : Ready t.work list' store' page
          ready =
              accepted_things_take_an_ingest 4096 t.work list' store' page 0 (sym loaded_here.holds.sound) refl a_page_has_4096_bytes page (sym loaded_here.whole)

      module _ (r : Result Taking Refusal) (list'' : List Entry) (store'' : List ℕ) (m : ChangeTaken t list' store' page c values r list'' store'') where
        abbrev o : Ingested
        o = ingested_by t list' store' page c values

        abbrev P' : List Record
        P' = changed e.key e.change (pending_of t.work list' store' page)

        room_is : ingest_number o.reply ≡ room_verdict (length list) (length store) P'
        room_is =
            ingesting.the_room_decides 4096 a_page_has_4096_bytes t.work list' store' page e later loaded_here
            ∙ ap (λ (n : ℕ). room_verdict n (length store') P') k.list_long
            ∙ ap (λ (n : ℕ). room_verdict (length list) n P') k.store_long

        -- the number of all of them, from this one on
        from_here : first (number_of r) (rooms_verdict (length list) (length store) later P') ≡ whole
        from_here =
            ap (λ (n : ℕ). first n (rooms_verdict (length list) (length store) later P')) (m.number_is ∙ room_is)
            ∙ sym (ap (λ (es : List Edit). rooms_verdict (length list) (length store) es (pending_of t.work list' store' page)) edits_are)
            ∙ k.rooms_are

      module _ (r : Taking) (list'' : List Entry) (store'' : List ℕ) (m : ChangeTaken t list' store' page c values (Ok r) list'' store'') where
        abbrev made : Ingested
        made = ingested_by t list' store' page c values

        none : ingest_number made.reply ≡ 0
        none = sym m.number_is

        abbrev Q : List Record
        Q = changed e.key e.change (pending_of t.work list' store' page)

        stays : Stays t.work made.work made.list made.store page Q
        stays = ingesting.an_ingest_makes_its_change 4096 a_page_has_4096_bytes t.work list' store' page e later loaded_here none

        lengths : (length made.list ≡ length list') × (length made.store ≡ length store')
        lengths = ingesting.an_ingest_keeps_the_lengths 4096 a_page_has_4096_bytes t.work list' store' page e later loaded_here

        pub one_more_is_taken : TakenTo r list'' store'' (i + 1)
        one_more_is_taken = rw (m.taken_is, m.list_is, m.store_is) (record {
          list_long = lengths.0 ∙ k.list_long;
          store_long = lengths.1 ∙ k.store_long;
          rooms_are = ap (rooms_verdict (length list) (length store) later) stays.pending_is ∙ from_here (Ok r) list'' store'' m;
          within = omega (arith, less);
          value_is = omega (arith, values_are);
          loaded = ingesting.an_ingest_goes_on 4096 a_page_has_4096_bytes t.work list' store' page e later loaded_here none;
          separator = stays.separator ∙ k.separator;
          cutoff = stays.cutoff ∙ k.cutoff;
          ends =
              ap (changed_all later) stays.pending_is
              ∙ sym (ap (λ (es : List Edit). changed_all es (pending_of t.work list' store' page)) edits_are)
              ∙ k.ends;
        })

      pub the_refusal_stays : (r : Refusal) (list'' : List Entry) (store'' : List ℕ) → ChangeTaken t list' store' page c values (Err r) list'' store'' → ChangesTaken w list store page changes values (Err r) list'' store''
      the_refusal_stays r list'' store'' m = record {
        number_is = sym (first_refused (number r) _ (refused r)) ∙ from_here (Err r) list'' store'' m;
        made = tt;
      }
