-- An accepted digest: inserts alone are left, what the model sees then, and what is kept. Assumes nothing.
use mathlib.Core.Path.{◌≡◌, refl, sym, ap, ◌∙◌}
use mathlib.Core.Bool.{Bool, true, false, true≢false, cond}
use mathlib.Core.List.{List, [], ◌∷◌, ◌++◌, append-nil}
use Prim.Native.Nat.{ℕ, suc, ◌+◌, ◌-◌, ◌≤◌}
use native.Mathlib.Omega.{arith}
use lib.Dec.{eqb}
use lib.ListN.{length, replicate, length-append, length-replicate}
use Rattle.bit_ops.specs.Steps.{zeros}
use Rattle.leaf_node.specs.Record.{Record, values, total}
use Rattle.leaf_node.specs.Page.{run, records_between}
use Rattle.leaf_node.specs.Fits.{nil}
use Rattle.leaf_node.proofs.Lengths.{length_values}
use Rattle.leaf_model.specs.Basics.{joined, nonempty}
use Rattle.leaf_model.specs.Cut.{Cut}
use Rattle.leaf_model.specs.Work.{zero_key, turn_after, separator_after, override_after, floor_after, work_after}
use Rattle.leaf_work.specs.declared.Work.{Work}
use Rattle.leaf_work.specs.declared.Entry.{Entry}
use Rattle.leaf_work.specs.Tests.{is_set, bit, key_if}
use Rattle.leaf_work.specs.Lent.{blank, turn_number, cutoff_of, last_of, separator_of, reads_base, regarded}
use Rattle.leaf_work.specs.Pending.{listed_of, rest_of, pending_of}
use Rattle.leaf_work.specs.Digest.{inserts_of, digest_work, digest_done}
use Rattle.leaf_work.proofs.Tests.{kept_key_long, kept_key_absent, bit_small}
use Rattle.leaf_work.proofs.Operations.{some_put, total_append, puts, puts_within, puts_records, puts_bytes, puts_entries, puts_length}
use Rattle.leaf_work.proofs.Laid.{Laid, Kept, turn_of_number, an_ignored_page_has_no_records, listed_is, rest_is, pending_is, sees_work}
use Rattle.leaf_claim.proofs.Leaves.{separator_after_has_32_bytes}

some_kept : (rs : List Record) → is_set (bit (nonempty rs)) ≡ true → some_put (puts rs) ≡ true
some_kept [] e = e
some_kept (r ∷ rs) e = refl

not_open : (rs : List Record) → eqb (turn_number (turn_after rs)) 1 ≡ false
not_open [] = refl
not_open (r ∷ rs) = refl

pub override_is : (s : List ℕ) (ls : List (List Record)) (rs : List Record)
    → key_if (is_set (bit (nonempty rs))) (cond (nonempty rs) (separator_after s ls rs) zero_key) ≡ override_after s ls rs
override_is s ls [] = refl
override_is s ls (r ∷ rs) = refl

floor_long : (f : List ℕ) (b : Bool) (c : List ℕ) (rs : List Record) → length f ≡ 32 → length c ≡ 32 → length (floor_after f (key_if b c) rs) ≡ 32
floor_long f b c [] h k = h
floor_long f true c (r ∷ rs) h k = k
floor_long f false c (r ∷ rs) h k = h

inserts_length : (at : ℕ) (rs : List Record) → length (inserts_of at rs) ≡ length rs
inserts_length at [] = refl
inserts_length at (r ∷ rs) = ap suc (inserts_length (at + length r.value) rs)

module _ (size : ℕ) (w : Work) (list : List Entry) (store area tickets : List ℕ) (p : Cut) where
  abbrev w' : Work
  w' = digest_work w p

  abbrev list' : List Entry
  list' = (digest_done size w list store area tickets p).list

  abbrev store' : List ℕ
  store' = (digest_done size w list store area tickets p).store

  pub laid_after_digest : Laid w' list' store' [] (puts p.left)
  laid_after_digest = record {
    room = length list - length p.left;
    spare = length store - total p.left;
    list_is = rw (puts_entries [] 0 p.left);
    store_is = rw (puts_bytes p.left);
    used_is = sym (puts_length p.left);
    filled_is = sym (ap length (puts_bytes p.left) ∙ length_values p.left);
    count_is = rw (puts_records [] p.left);
    bytes_is = rw (puts_records [] p.left);
    low_in = omega arith;
    chunks = puts_within 0 p.left;
    override_has_insert = some_kept p.left;
  }

  rest_none : rest_of w' store' [] ≡ []
  unfolding records_between run
  rest_none = rest_is w' list' store' [] (puts p.left) laid_after_digest ∙ rw an_ignored_page_has_no_records

  listed_kept : listed_of w' list' store' [] ≡ p.left
  listed_kept = listed_is w' list' store' [] (puts p.left) laid_after_digest ∙ puts_records [] p.left

  pending_kept : pending_of w' list' store' [] ≡ p.left
  unfolding records_between run
  pending_kept = pending_is w' list' store' [] (puts p.left) laid_after_digest ∙ rw (puts_records [] p.left, an_ignored_page_has_no_records) (append-nil p.left)

  pub model_sees_the_digest : (q : List ℕ) → sees_work w' list' store' [] ≡ work_after (sees_work w list store q) p
  model_sees_the_digest q = λ j. record {
    turn = turn_of_number (turn_after p.left) j;
    listed = listed_kept j;
    rest = rest_none j;
    override = override_is (separator_of w) p.leaves p.left j;
    latest = w.latest;
    cutoff = cutoff_of w;
    floor = floor_after w.floor (cutoff_of w) p.left;
    last = last_of w;
  }

  pub no_page_is_read_after_a_digest : (page : List ℕ) → regarded w' page ≡ []
  no_page_is_read_after_a_digest page = rw (not_open p.left)

  pub no_base_is_read_after_a_digest : reads_base w' ≡ false
  no_base_is_read_after_a_digest = rw (not_open p.left)

  not_based : reads_base w' ≡ true → ⊥
  not_based e = true≢false (sym e ∙ no_base_is_read_after_a_digest)

  module _ (q page : List ℕ) (h : Kept size w list store q page) (e : joined p.leaves ++ p.left ≡ pending_of w list store q) (sep-long : length (separator_of w) ≡ 32) where
    left_few : length p.left ≤ length list
    left_few = omega (arith, ap length e, length-append (joined p.leaves) p.left, h.room_list)

    left_small : total p.left ≤ length store
    left_small = omega (arith, ap total e, total_append (joined p.leaves) p.left, h.room_store)

    pub list_is_as_long : length list' ≡ length list
    list_is_as_long =
        let n : ℕ = length list - length p.left in
        omega (arith, inserts_length 0 p.left, length-append (inserts_of 0 p.left) (replicate n blank), length-replicate n blank, left_few)

    pub store_is_as_long : length store' ≡ length store
    store_is_as_long =
        let n : ℕ = length store - total p.left in
        omega (arith, length-append (values p.left) (zeros n), length-replicate {A = ℕ} n 0, length_values p.left, left_small)

    pub kept_after_digest : Kept size w' list' store' [] page
    kept_after_digest = record {
      right_room = rw (list_is_as_long, store_is_as_long) h.right_room;
      room_list = rw (list_is_as_long, pending_kept) left_few;
      room_store = rw (store_is_as_long, pending_kept) left_small;
      base_right = λ z. absurd (not_based z);
      rest_above_lem = rw rest_none nil;
      last_below_lem = h.last_below_lem;
      cut_based = h.cut_based;
      base_floor = λ z. absurd (not_based z);
      no_cut = h.no_cut;
      no_over = kept_key_absent (nonempty p.left) (separator_after (separator_of w) p.leaves p.left);
      no_last = h.no_last;
      known_turn_lem = ap turn_number (sym (turn_of_number (turn_after p.left)));
      flags = record { mode = h.flags.mode; based = h.flags.based; cut = h.flags.cut; over = bit_small (nonempty p.left); taken = h.flags.taken };
      keyed = record {
        latest = h.keyed.latest;
        cutoff = h.keyed.cutoff;
        overriding = kept_key_long (nonempty p.left) (separator_after (separator_of w) p.leaves p.left) (separator_after_has_32_bytes (separator_of w) p.leaves p.left sep-long);
        floor = floor_long w.floor (is_set w.cut) w.cutoff p.left h.keyed.floor h.keyed.cutoff;
        last = h.keyed.last;
      };
    }
