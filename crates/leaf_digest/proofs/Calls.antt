-- What an accepted digest may rely on. Assumes nothing.
use mathlib.Core.Logic.{inl}
use mathlib.Core.Path.{◌≡◌}
use mathlib.Core.Bool.{true}
use mathlib.Core.List.{List}
use Prim.Native.Nat.{ℕ, ◌*◌, ◌≤◌}
use native.Mathlib.Omega.{arith}
use lib.Dec.{leb}
use lib.ListN.{length, take}
use borrow.Author.Tests.{leb-true}
use Rattle.leaf_node.specs.Limits.{PageSize, pages_asked}
use Rattle.leaf_node.specs.Record.{Record, body}
use Rattle.leaf_node.specs.Fits.{All}
use Rattle.leaf_model.proofs.Tests.{and_left, and_right}
use Rattle.leaf_work.specs.declared.Work.{Work}
use Rattle.leaf_work.specs.declared.Entry.{Entry}
use Rattle.leaf_work.specs.Lent.{is_open, regarded}
use Rattle.leaf_work.specs.Pending.{pending_of}
use Rattle.leaf_work.specs.Ready.{Ready}
use Rattle.leaf_work.specs.Verdict.{lent_verdict, has_pages, digest_verdict}
use Rattle.leaf_work.proofs.Tests.{passed, first_passed}
use Rattle.leaf_work.proofs.Laid.{pending_parts}
use Rattle.leaf_work.proofs.Readiness as readiness
use Rattle.leaf_work.proofs.PendingRecords.{EntryKeyed, pending_keys_have_32_bytes, pending_values_are_fitting}
use Rattle.leaf_give.specs.Giving.{Gives}
use Rattle.leaf_digest.specs.Steps.{Digests}
use Rattle.leaf_digest.proofs.Numbers.{the_pending_records_are_counted, the_pending_values_are_summed}

-- ---- an accepted work can be digested

module _ (size : ℕ) (w : Work) (list : List Entry) (store page area tickets : List ℕ) (none : digest_verdict size w (pending_of w list store (regarded w page)) area tickets (lent_verdict size w list store page) ≡ 0) where
  abbrev given : List Record
  given = pending_of w list store (regarded w page)

  pub lent_earns_nothing : lent_verdict size w list store page ≡ 0
  unfolding digest_verdict
  lent_earns_nothing = (first_passed (lent_verdict size w list store page) _ none).0

  has_pages_lem : has_pages size given area tickets ≡ true
  unfolding digest_verdict
  has_pages_lem = (passed 16 (has_pages size given area tickets) 0 (passed 8 (is_open w) _ (first_passed (lent_verdict size w list store page) _ none).1).1).0

  abbrev asked : ℕ
  asked = pages_asked size (body given)

  module _ (q : PageSize size) where
    pub an_accepted_work_is_ready : Ready w list store (regarded w page)
    an_accepted_work_is_ready = readiness.accepted_things_are_ready size w list store page lent_earns_nothing q

    pub all_that_is_pending_has_room : length given ≤ length list
    all_that_is_pending_has_room = omega (arith, the_pending_records_are_counted size w list store page lent_earns_nothing, readiness.list_room size w list store page lent_earns_nothing)

    module _ (k : All EntryKeyed (take w.used list)) where
      gives : Gives size w list store (regarded w page) area tickets
      gives = record {
        sized = q;
        ready = an_accepted_work_is_ready;
        keyed = rw (pending_parts w list store (regarded w page)) (pending_keys_have_32_bytes size q w list store page lent_earns_nothing k);
        fitting = rw (pending_parts w list store (regarded w page)) (pending_values_are_fitting size q w list store page lent_earns_nothing);
        rise = (readiness.c size w list store page lent_earns_nothing).keys_rise_lem;
        counted = the_pending_records_are_counted size w list store page lent_earns_nothing;
        summed = the_pending_values_are_summed size w list store page lent_earns_nothing;
        area_room = leb-true (asked * size) (length area) (and_left (leb (asked * size) (length area)) (leb (asked * 65) (length tickets)) has_pages_lem);
        ticket_room = leb-true (asked * 65) (length tickets) (and_right (leb (asked * size) (length area)) (leb (asked * 65) (length tickets)) has_pages_lem);
      }

      pub an_accepted_work_can_be_digested : (p : List ℕ) → p ≡ regarded w page → Digests size w list store p area tickets
      an_accepted_work_can_be_digested p e = rw e (record {
        gives = gives;
        in_place = readiness.in_place size w list store page lent_earns_nothing;
        unused = readiness.unused_bytes_are_zero size w list store page lent_earns_nothing;
        room = inl all_that_is_pending_has_room;
      })
