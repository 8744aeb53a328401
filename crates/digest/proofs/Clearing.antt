-- A digest of any list, whose entries behind the used ones are cleared first: its outcome is that of the list as it was. Assumes nothing.
use mathlib.Core.Path.{◌≡◌}
use mathlib.Core.List.{List}
use Prim.Native.Nat.{ℕ}
use lib.ListN.{length, take}
use Rattle.leaf_model.specs.Basics.{cleared}
use Rattle.leaf_work.specs.declared.Work.{Work}
use Rattle.leaf_work.specs.declared.Entry.{Entry}
use Rattle.leaf_work.specs.Lent.{blank}
use Rattle.leaf_work.specs.Pending.{pending_of}
use Rattle.leaf_work.specs.Digest.{DigestReply}
use Rattle.leaf_give.specs.Giving.{Gives}
use Rattle.leaf_digest.specs.Steps.{Digests, Leaves}
use Rattle.digest_keep.proofs.Clearing.{a_cleared_list_is_as_long, a_cleared_list_begins_as_it_did, a_cleared_list_is_clear_behind, the_same_is_pending, the_same_is_ready}
use Rattle.digest.specs.Steps.{Ready, outcome_of}

module _ (size : ℕ) (w : Work) (list : List Entry) (store page area tickets : List ℕ) (d : Digests size w list store page area tickets)
    (list₁ : List Entry) (e : list₁ ≡ cleared blank list w.used) where
  g : Gives size w list store page area tickets
  g = d.gives

  long : length list₁ ≡ length list
  long = a_cleared_list_is_as_long blank list w.used g.ready.used_in list₁ e

  same : take w.used list₁ ≡ take w.used list
  same = a_cleared_list_begins_as_it_did blank list w.used g.ready.used_in list₁ e

  pending : pending_of w list₁ store page ≡ pending_of w list store page
  pending = the_same_is_pending w list list₁ store page long same

  pub a_cleared_list_is_ready : Ready size w list₁ store page area tickets
  a_cleared_list_is_ready = record {
    digests = record {
      gives = record {
        sized = g.sized;
        ready = the_same_is_ready w list list₁ store page long same g.ready;
        keyed = rw pending g.keyed;
        fitting = rw pending g.fitting;
        rise = rw pending g.rise;
        counted = rw pending g.counted;
        summed = rw pending g.summed;
        area_room = rw pending g.area_room;
        ticket_room = rw pending g.ticket_room;
      };
      in_place = rw same d.in_place;
      unused = d.unused;
      room = rw (long, pending) d.room;
    };
    unused = a_cleared_list_is_clear_behind blank list w.used g.ready.used_in list₁ e;
  }

  same_outcome : outcome_of size w list₁ store page area tickets ≡ outcome_of size w list store page area tickets
  same_outcome = rw (pending, long)

  pub a_cleared_list_leaves_its_outcome : (reply : DigestReply) (w' : Work) (list' : List Entry) (store' area' tickets' : List ℕ)
      → Leaves (outcome_of size w list₁ store page area tickets) reply w' list' store' area' tickets' → Leaves (outcome_of size w list store page area tickets) reply w' list' store' area' tickets'
  a_cleared_list_leaves_its_outcome reply w' list' store' area' tickets' h = rw same_outcome at h
