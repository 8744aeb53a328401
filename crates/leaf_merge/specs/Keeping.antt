-- The records that a digest keeps: they become inserts at the start of list and store. `page` is the page as the work regards it.
use Rattle.std.specs.Prelude.{◌≡◌, ◌⊎◌, true, List, ◌++◌, ℕ, ◌+◌, ◌-◌, ◌≤◌, length, take, drop, replicate}
use Rattle.bit_ops.specs.Steps.{zeros}
use Rattle.leaf_node.specs.Record.{Record, values, total}
use Rattle.leaf_node.specs.Page.{count, values_size}
use Rattle.leaf_work.specs.declared.Work.{Work}
use Rattle.leaf_work.specs.declared.Entry.{Entry}
use Rattle.leaf_work.specs.Tests.{every, is_zero}
use Rattle.leaf_work.specs.Lent.{blank}
use Rattle.leaf_work.specs.Pending.{pending_of}
use Rattle.leaf_work.specs.Sound.{placed}
use Rattle.leaf_work.specs.Ready.{Ready}
use Rattle.leaf_work.specs.Digest.{inserts_of}
use Rattle.leaf_cut.specs.declared.Cursor.{Cursor}
use Rattle.leaf_cut.specs.declared.Gauge.{Gauge}
use Rattle.leaf_cut.specs.Records.{span_of, records_from}
use Rattle.leaf_cut.specs.Steps.{CursorIn}

-- so many entries are room for all that is pending, or for the used entries and beside them what is kept
abbrev pub RoomToKeep : ℕ → ℕ → ℕ → ℕ → Type 0
RoomToKeep entries pending used kept = (pending ≤ entries) ⊎ (used + kept ≤ entries)

module _ (w : Work) (list : List Entry) (store page : List ℕ) (at : Cursor) where
  -- the records from the cursor on
  abbrev pub kept_records : List Record
  kept_records = records_from (span_of w) list store page at

  -- a work whose lent things earn no refusal, and a cursor at the records that are kept, with their gauge; they may be raised to entry `room`
  pub record Keeps (left : Gauge) (room : ℕ) : Type 0 where
    pub ready : Ready w list store page
    pub in_place : placed w.filled 0 (take w.used list) ≡ true
    pub unused : every is_zero (drop w.filled store) ≡ true
    pub counted : length (pending_of w list store page) ≡ w.count + (count page - w.low)
    pub summed : total (pending_of w list store page) ≡ w.bytes + values_size page w.low (count page)
    pub there : CursorIn list page (span_of w) at
    pub left_counted : left.count ≡ length kept_records
    pub left_summed : left.bytes ≡ total kept_records
    pub room_in : room ≤ length list
    pub used_room : w.used ≤ room
    pub room_is : RoomToKeep room (length (pending_of w list store page)) w.used left.count

  -- "unused entries, entry fields and bytes are zero"
  abbrev pub kept_list : ℕ → List Entry
  kept_list n = inserts_of 0 kept_records ++ replicate (n - length kept_records) blank

  -- list and store: the kept records as inserts, then zeros
  pub record KeptAs (list' : List Entry) (store' : List ℕ) : Type 0 where
    pub list_is : list' ≡ kept_list (length list)
    pub store_is : store' ≡ values kept_records ++ zeros (length store - total kept_records)
