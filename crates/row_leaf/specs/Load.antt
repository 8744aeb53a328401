-- Document 02, M-101: a leaf that is loaded: its changes are taken, and what is pending is digested into the new row.
use Rattle.std.specs.Prelude.{◌≡◌, true, List, [], ◌++◌, map, ℕ, ◌+◌, ◌-◌, ◌*◌, ◌≤◌, ◌<◌, length, take, drop, replicate, Some, None, is_some, Result, IfOk}
use Rattle.std.specs.Prelude as std
use Rattle.std.specs.Bool.{then_some}
use Rattle.std.proofs.Math.Option.{Option, some}
use Rattle.bit_ops.specs.Steps.{zeros}
use Rattle.refusal.specs.declared.Refusal.{Refusal}
use Rattle.refusal.specs.Numbers.{number_of}
use Rattle.leaf_node.specs.Limits.{pages_asked}
use Rattle.leaf_node.specs.Record.{Record, body}
use Rattle.leaf_node.specs.Page.{records}
use Rattle.leaf_node.specs.Build.{put}
use Rattle.leaf_node.specs.Fits.{All}
use Rattle.leaf_model.specs.Basics.{nonempty}
use Rattle.leaf_model.specs.Work.{zero_key, below_cutoff, plan, leaves_by, separator_after}
use Rattle.leaf_model.specs.Claim.{Le}
use Rattle.leaf_work.specs.declared.Work.{Work}
use Rattle.leaf_work.specs.declared.Entry.{Entry}
use Rattle.leaf_work.specs.Lent.{blank, room_right, cutoff_of, separator_of}
use Rattle.leaf_work.specs.Pending.{pending_of}
use Rattle.leaf_work.specs.Verdict.{base_verdict}
use Rattle.leaf_work.specs.Digest.{pages_of}
use Rattle.leaf_digest.specs.declared.Given.{Given}
use Rattle.row_turns.specs.Changes.{Edit, EditsRight, changed_all}
use Rattle.row_turns.specs.Turns.{load_verdict}
use Rattle.row_changes.specs.Packed.{edits_of}
use Rattle.row_changes.specs.Tests.{values_length}
use Rattle.row_work.specs.Loaded.{Loaded, Waits}
use Rattle.row_tickets.specs.Linked.{linked_all, last_linked, separators_read}
use Rattle.row_leaf.specs.declared.LeafAt.{LeafAt}
use Rattle.row_leaf.specs.declared.RowAt.{RowAt}
use Rattle.row_leaf.specs.declared.LentRow.{LentRow}
use Rattle.row_leaf.specs.declared.LoadedLeaf.{LoadedLeaf}
use Rattle.row_leaf.specs.declared.Turn.{Turn}
use Rattle.row_leaf.specs.Leaf.{is_based, cutoff_key, cutoff_in, page_in, PageThere}

-- ---- the leaves of a digest are linked

pub record LinkThere (at : RowAt) (leaves : ℕ) (own tickets : List ℕ) : Type 0 where
  pub ticket_room : 65 * (at.leaves + leaves) ≤ length tickets
  pub own_room : 65 * leaves ≤ length own
  pub leaves_fit : at.leaves + leaves < 18446744073709551616

abbrev pub given_by : RowAt → Given → Work → List ℕ → RowAt
given_by at given work own = record {
  leaves = at.leaves + given.leaves;
  last = last_linked at.leaves at.last (separators_read given.leaves own);
  change = at.change;
  value = at.value;
  waiting = then_some (is_some given.cutoff) work;
}

-- ---- a digest of what is pending

-- between two leaves: a work holds what waits for a merge, its leaf beginning at s and the one asked for at c; or nothing waits, and list and store are zeros
abbrev pub Between : std.Option Work → List Entry → List ℕ → List Record → List ℕ → Option (List ℕ) → Type 0
Between (Some w) list store kept s c = (nonempty kept ≡ true) × Waits 4096 w list store kept s c
Between None list store kept s c = (kept ≡ []) × (list ≡ replicate (length list) blank) × (store ≡ zeros (length store))

pub record DigestThere (at : RowAt) (w : Work) (list : List Entry) (store page area tickets : List ℕ) : Type 0 where
  pub loaded : Loaded 4096 w list store page []
  pub area_room : (at.leaves + pages_asked 4096 (body (pending_of w list store page))) * 4096 ≤ length area
  pub ticket_room : (at.leaves + pages_asked 4096 (body (pending_of w list store page))) * 65 ≤ length tickets

-- the leaves of pending records that begin at s, under the cutoff c, come behind those of the new row
module _ (at : RowAt) (s : List ℕ) (c : Option (List ℕ)) (pending : List Record) (to value : ℕ) (area tickets : List ℕ) where
  pub record LeavesGiven (r : RowAt) (list' : List Entry) (store' area' tickets' : List ℕ) : Type 0 where
    pub leaves_are : r.leaves ≡ at.leaves + length (plan 4096 c pending).leaves
    pub last_is : r.last ≡ last_linked at.leaves at.last (map (λ l. l.separator) (leaves_by s c (plan 4096 c pending)))
    pub change_is : r.change ≡ to
    pub value_is : r.value ≡ value
    pub area_is : area' ≡ put area (at.leaves * 4096) (pages_of 4096 (leaves_by s c (plan 4096 c pending)))
    pub tickets_are : tickets' ≡ linked_all at.leaves at.last (map (λ l. l.separator) (leaves_by s c (plan 4096 c pending))) tickets
    pub rests : Between r.waiting list' store' (plan 4096 c pending).left (separator_after s (plan 4096 c pending).leaves (plan 4096 c pending).left) c

-- the same of a leaf that is loaded
abbrev pub LeafDigested : RowAt → LoadedLeaf → List Entry → List ℕ → List ℕ → List ℕ → RowAt → List Entry → List ℕ → List ℕ → List ℕ → Type 0
LeafDigested at loaded list store area tickets r list' store' area' tickets' =
    LeavesGiven at (separator_of loaded.work) (cutoff_of loaded.work) (pending_of loaded.work list store loaded.node.page.now) at.change at.value area tickets r list' store' area' tickets'

-- ---- a leaf that is loaded

-- what waits, and where the records begin that are pending then
abbrev pub kept_by : RowAt → List Entry → List ℕ → List Record
kept_by at list store = elim at.waiting [ Some w ↦ pending_of w list store [] | None ↦ [] ]

abbrev pub begins_at : RowAt → LeafAt → List ℕ
begins_at at leaf = elim at.waiting [ Some w ↦ separator_of w | None ↦ leaf.separator ]

-- its changes, up to change `to`
abbrev pub changes_in : RowAt → List (List ℕ) → ℕ → List (List ℕ)
changes_in at changes to = take (to - at.change) (drop at.change changes)

abbrev pub edits_in : RowAt → List (List ℕ) → ℕ → List ℕ → List Edit
edits_in at changes to values = edits_of (changes_in at changes to) (drop at.value values)

abbrev pub pending_in : RowAt → LeafAt → List Entry → List ℕ → List ℕ → List Edit → List Record
pending_in at leaf list store pages es = changed_all es (kept_by at list store ++ records (page_in leaf pages))

-- a leaf of the row is a base that passes; a row without leaves has none
pub record LeafRight (at : RowAt) (leaf : LeafAt) (pages : List ℕ) : Type 0 where
  pub page_there : PageThere leaf pages
  pub separator_long : length leaf.separator ≡ 32
  pub cutoff_long : length (cutoff_key leaf) ≡ 32
  pub base : is_based leaf ≡ true → base_verdict 4096 (page_in leaf pages) leaf.separator (cutoff_in leaf) ≡ 0
  pub bare : leaf.page ≡ None → (leaf.separator ≡ zero_key) × (leaf.cutoff ≡ None) × (at.waiting ≡ None)

module _ (at : RowAt) (leaf : LeafAt) (list : List Entry) (store pages : List ℕ) (changes : List (List ℕ)) (to : ℕ) (values area tickets : List ℕ) where
  -- what is pending when its changes are made, and where the value of the next change begins then
  abbrev pub pending_then : List Record
  pending_then = pending_in at leaf list store pages (edits_in at changes to values)

  abbrev pub value_then : ℕ
  value_then = at.value + values_length (changes_in at changes to)

  pub record LoadThere : Type 0 where
    pub leaf_right : LeafRight at leaf pages
    pub room : room_right 4096 (length list) (length store) ≡ true
    pub changes_there : at.change ≤ to
    pub changes_in_lem : to ≤ length changes
    pub values_in : at.value ≤ length values
    pub values_there : values_length (changes_in at changes to) ≤ length (drop at.value values)
    pub right : EditsRight 4096 (edits_in at changes to values)
    pub above : All (λ e. Le leaf.separator e.key) (edits_in at changes to values)
    pub below : All (λ e. below_cutoff (cutoff_in leaf) e.key ≡ true) (edits_in at changes to values)
    pub rests : Between at.waiting list store (kept_by at list store) (begins_at at leaf) (some leaf.separator)
    pub area_room : (at.leaves + pages_asked 4096 (body pending_then)) * 4096 ≤ length area
    pub ticket_room : (at.leaves + pages_asked 4096 (body pending_then)) * 65 ≤ length tickets

  -- "on 15 or 16 in the middle"; else the new row goes on
  pub record LeafLoaded (r : Result RowAt Refusal) (list' : List Entry) (store' area' tickets' : List ℕ) : Type 0 where
    pub number_is : number_of r ≡ load_verdict (length list) (length store) (kept_by at list store) (records (page_in leaf pages)) (edits_in at changes to values)
    pub given : IfOk r (λ x. LeavesGiven at (begins_at at leaf) (cutoff_in leaf) pending_then to value_then area tickets x list' store' area' tickets')

-- the same of a turn, and of what a row call only reads
abbrev pub LoadAsked : Turn → List Entry → List ℕ → LentRow → List ℕ → List ℕ → Type 0
LoadAsked t list store lent area tickets = LoadThere t.at t.leaf list store lent.row.pages.now lent.changes.now t.to lent.values.now area tickets

abbrev pub LoadGiven : Turn → List Entry → List ℕ → LentRow → List ℕ → List ℕ → Result RowAt Refusal → List Entry → List ℕ → List ℕ → List ℕ → Type 0
LoadGiven t list store lent area tickets = LeafLoaded t.at t.leaf list store lent.row.pages.now lent.changes.now t.to lent.values.now area tickets
