-- The leaves of a digest: what giving them requires, and what it leaves in area and tickets. `page` is the page as the work regards it.
use Rattle.std.specs.Prelude.{◌≡◌, true, List, ℕ, ◌+◌, ◌-◌, ◌*◌, ◌≤◌, length}
use Rattle.leaf_node.specs.Limits.{PageSize, pages_asked}
use Rattle.leaf_node.specs.Record.{Record, body, total}
use Rattle.leaf_node.specs.Page.{count, values_size}
use Rattle.leaf_node.specs.Fits.{All, Keyed, Fitting}
use Rattle.leaf_model.specs.Cut.{Cut}
use Rattle.leaf_model.specs.Work.{Leaf, is_rising, plan, separator_after, leaves_by}
use Rattle.leaf_work.specs.declared.Entry.{Entry}
use Rattle.leaf_work.specs.declared.Work.{Work}
use Rattle.leaf_work.specs.Lent.{cutoff_of, separator_of}
use Rattle.leaf_work.specs.Pending.{pending_of}
use Rattle.leaf_work.specs.Ready.{Ready}
use Rattle.leaf_work.specs.Digest.{pages_of, tickets_of, overwrite}
use Rattle.leaf_cut.specs.Records.{span_of, records_from}
use Rattle.leaf_cut.specs.Steps.{CursorIn}
use Rattle.leaf_give.specs.declared.Progress.{Progress}

module _ (size : ℕ) (w : Work) (list : List Entry) (store page : List ℕ) where
  -- all that is pending
  abbrev pub pending : List Record
  pending = pending_of w list store page

  -- steps 1 to 4: the leaves that are cut, and the records that are kept
  abbrev pub planned : Cut
  planned = plan size (cutoff_of w) pending

  -- step 5: the leaves with their separators and cutoffs
  abbrev pub leaves : List Leaf
  leaves = leaves_by (separator_of w) (cutoff_of w) planned

  -- a work whose lent things earn no refusal, with room for its leaves
  pub record Gives (area tickets : List ℕ) : Type 0 where
    pub sized : PageSize size
    pub ready : Ready w list store page
    pub keyed : All Keyed pending
    pub fitting : All (Fitting size) pending
    pub rise : is_rising pending ≡ true
    pub counted : length pending ≡ w.count + (count page - w.low)
    pub summed : total pending ≡ w.bytes + values_size page w.low (count page)
    pub area_room : pages_asked size (body pending) * size ≤ length area
    pub ticket_room : pages_asked size (body pending) * 65 ≤ length tickets

  -- what is left in area and tickets, and how far the digest has come
  pub record GivenOut (area tickets : List ℕ) (p : Progress) (area' tickets' : List ℕ) : Type 0 where
    pub area_is : area' ≡ overwrite (pages_of size leaves) area
    pub tickets_are : tickets' ≡ overwrite (tickets_of leaves) tickets
    pub leaves_are : p.leaves ≡ length planned.leaves
    pub place_is : p.place ≡ length (tickets_of leaves)
    pub there : CursorIn list page (span_of w) p.at
    pub left_is : records_from (span_of w) list store page p.at ≡ planned.left
    pub count_is : p.left.count ≡ length planned.left
    pub bytes_is : p.left.bytes ≡ total planned.left
    pub separator_is : p.separator ≡ separator_after (separator_of w) planned.leaves planned.left
