-- What a sequence of the claim reaches is what the turns of a row go over, and the other way. Assumes nothing.
use mathlib.Core.Path.{◌≡◌, refl, subst}
use mathlib.Core.Bool.{Bool, true, false, cond}
use mathlib.Core.List.{List, [], ◌∷◌}
use Prim.Native.Nat.{◌+◌, ℕ, zero, suc}
use lib.ListN.{length, replicate}
use Rattle.leaf_node.specs.Limits.{PageSize}
use Rattle.leaf_node.specs.Page.{records_between}
use Rattle.leaf_node.specs.Fits.{All, nil, cons, Keyed}
use Rattle.leaf_model.proofs.Lists.{all_append, all_left, all_right_lem}
use Rattle.leaf_work.specs.declared.Work.{Work}
use Rattle.leaf_work.specs.declared.Entry.{Entry}
use Rattle.leaf_work.specs.Lent.{blank, regarded}
use Rattle.leaf_work.specs.Pending.{listed_of, rest_of}
use Rattle.leaf_work.proofs.Operations.{Op, Put, Keep, records_of_ops, entries_of}
use Rattle.leaf_work.proofs.Laid as laid
use Rattle.leaf_work.proofs.PendingRecords.{EntryKeyed}
use Rattle.leaf_work.proofs.Canonical.{sound_work_is_canonical}
use Rattle.leaf_claim.specs.Told.{reads_page}
use Rattle.leaf_claim.specs.Sequence.{State, lent}
use Rattle.leaf_claim.proofs.Reached.{Reached, reached_state_earns_no_refusal, pending_keys_have_32_bytes}
use Rattle.leaf_claim.proofs.Claimed.{lent_state}
use Rattle.row_work.specs.Loaded.{KeysLong, Holding}

-- ---- what holds of a work is a state that a sequence reaches

abbrev pub keyed : (w : Work) → KeysLong w → laid.Keyed w
keyed w k = record { latest = k.latest; cutoff = k.cutoff; overriding = k.overriding; floor = k.floor; last = k.last }

module _ (size : ℕ) (q : PageSize size) (w : Work) (list : List Entry) (store page : List ℕ) (h : Holding size w list store page) where
  abbrev pub state : State
  state = lent_state size q w list store page h.sound (keyed w h.keys) h.entries

  pub the_work_is_reached : Reached size state
  the_work_is_reached = record { canonical = sound_work_is_canonical size q w list store page h.sound (keyed w h.keys) h.entries; told = refl }

-- ---- and the other way

-- the page of a state is lent, whether it is read or not
lent_itself : (s : State) → lent s s.page ≡ s.page
lent_itself s = go (reads_page s.told)
  where
    go : (b : Bool) → cond b s.page s.page ≡ s.page
    go true = refl
    go false = refl

op_entries_keyed : (p : List ℕ) (at : ℕ) (os : List Op) → All Keyed (records_of_ops p os) → All EntryKeyed (entries_of p at os)
op_entries_keyed p at [] a = nil
op_entries_keyed p at (Put r ∷ os) (cons k a) = cons k (op_entries_keyed p (at + length r.value) os a)
op_entries_keyed p at (Keep from to ∷ os) a = cons refl (op_entries_keyed p (at + 0) os (all_right_lem (records_between p from to) (records_of_ops p os) a))

blanks_keyed : (n : ℕ) → All EntryKeyed (replicate n blank)
blanks_keyed zero = nil
blanks_keyed (suc n) = cons refl (blanks_keyed n)

module _ (size : ℕ) (s : State) (r : Reached size s) where
  abbrev w : Work
  w = s.work

  abbrev p : List ℕ
  p = regarded w s.page

  entries_keyed : All EntryKeyed s.list
  entries_keyed =
      let l = r.canonical.laid in
      let a : All Keyed (listed_of w s.list s.store p) = all_left _ (rest_of w s.store p) (pending_keys_have_32_bytes size s r) in
      rw l.list_is (all_append (op_entries_keyed p 0 r.canonical.ops (rw (laid.listed_is w s.list s.store p r.canonical.ops l) at a)) (blanks_keyed l.room))

  keys_long : KeysLong w
  keys_long = let k = r.canonical.kept.keyed in record { latest = k.latest; cutoff = k.cutoff; overriding = k.overriding; floor = k.floor; last = k.last }

  pub a_reached_work_holds_any : (any : List ℕ) → Holding size w s.list s.store (lent s any)
  a_reached_work_holds_any any = record { sound = reached_state_earns_no_refusal size s r any; keys = keys_long; entries = entries_keyed }

  pub a_reached_work_holds : Holding size w s.list s.store s.page
  a_reached_work_holds = subst (Holding size w s.list s.store) (lent_itself s) (a_reached_work_holds_any s.page)
