-- One leaf given out, and a row of them: what is required, and what is left behind. `page` is the page as the work regards it.
use Rattle.std.specs.Prelude.{◌≡◌, true, List, ◌++◌, map, ℕ, ◌+◌, ◌-◌, ◌*◌, ◌^◌, ◌≤◌, ◌<◌, length, take, drop}
use Rattle.std.proofs.Math.Option.{Option, none, some}
use Rattle.bit_ops.specs.Separate.{separate_leaves}
use Rattle.leaf_node.specs.Limits.{body_limit}
use Rattle.leaf_node.specs.Record.{Record, total}
use Rattle.leaf_node.specs.Page.{pointer, key_at, values_size}
use Rattle.leaf_node.specs.Build.{put, build}
use Rattle.leaf_node.specs.Ticket.{packed_with}
use Rattle.leaf_node.specs.Fits.{All, Fits}
use Rattle.leaf_model.specs.Basics.{joined}
use Rattle.leaf_model.specs.Cut.{Cut, target_of}
use Rattle.leaf_model.specs.Work.{zero_key, or_else, leaf_cutoff, next_separator, is_rising, separator_after, leaves_by}
use Rattle.leaf_work.specs.declared.Entry.{Entry}
use Rattle.leaf_work.specs.declared.Work.{Work}
use Rattle.leaf_work.specs.Lent.{cutoff_of, separator_of}
use Rattle.leaf_work.specs.Digest.{tickets_of, overwrite}
use Rattle.leaf_cut.specs.declared.Gauge.{Gauge}
use Rattle.leaf_cut.specs.declared.Aim.{Aim}
use Rattle.leaf_cut.specs.declared.Span.{Span}
use Rattle.leaf_cut.specs.declared.Cursor.{Cursor}
use Rattle.leaf_cut.specs.declared.Taken.{Taken}
use Rattle.leaf_cut.specs.Sizes.{body_of}
use Rattle.leaf_cut.specs.Records.{span_of, first_cursor, records_from}
use Rattle.leaf_cut.specs.Steps.{CursorIn, Kept}
use Rattle.leaf_write.specs.Filling.{LeafFits}
use Rattle.leaf_give.specs.declared.Progress.{Progress}
use Rattle.leaf_give.specs.declared.Beginning.{Beginning}
use Rattle.leaf_give.specs.Giving.{pending}

-- ---- a ticket

-- how far a digest has come with a leaf, up to the cursor `at`
abbrev pub progress_of : Progress → Gauge → Cursor → ℕ → List ℕ → Progress
progress_of p leaf at place separator =
    record { at = at; left = record { count = p.left.count - leaf.count; bytes = p.left.bytes - leaf.bytes }; leaves = p.leaves + 1; place = place; separator = separator }

-- there are `tickets` bytes for tickets
pub record TicketAsked (p : Progress) (leaf : Gauge) (tickets : ℕ) : Type 0 where
  pub fewer : leaf.count ≤ p.left.count
  pub less : leaf.bytes ≤ p.left.bytes
  pub room : p.place + 65 ≤ tickets
  pub few : p.leaves + 1 < 2 ^ 64

-- what separates a leaf, by its last key, from the records behind it, by the first key of these, where there are any
abbrev pub between : List ℕ → Option (List ℕ) → Option (List ℕ)
between last none = none
between last (some first) = some (separate_leaves last first zero_key)

-- that, by the leaf's page and its gauge
abbrev pub separator_behind : List ℕ → Gauge → Option (List ℕ) → Option (List ℕ)
separator_behind built leaf first = between (key_at built (leaf.count - 1)) first

-- where there are records behind it, the leaf's page has the leaf's last key
abbrev pub LastKeyThere : List ℕ → Gauge → Option (List ℕ) → Type 0
LastKeyThere built leaf none = Unit {0}
LastKeyThere built leaf (some first) = (0 < leaf.count) × (pointer (leaf.count - 1 + 1) ≤ length built)

-- the first of two keys that is there
abbrev pub first_of : Option (List ℕ) → Option (List ℕ) → Option (List ℕ)
first_of (some k) other = some k
first_of none other = other

-- A leaf with this separator got its ticket at byte `place`. `between` separates it from the records behind it, where there are any.
pub record TicketGiven (between cutoff : Option (List ℕ)) (tickets : List ℕ) (place : ℕ) (separator : List ℕ) (next : ℕ) (separator' tickets' : List ℕ) : Type 0 where
  pub tickets_are : tickets' ≡ put tickets place (packed_with separator (first_of between cutoff))
  pub place_is : next ≡ place + length (packed_with separator (first_of between cutoff))
  pub short : next ≤ place + 65
  pub separator_is : separator' ≡ or_else between separator

-- how far a digest has come with a leaf and its ticket
abbrev pub FurtherBy : Progress → Taken → Option (List ℕ) → Option (List ℕ) → List ℕ → Progress → List ℕ → Type 0
FurtherBy p t next cutoff tickets r tickets' =
    (r ≡ progress_of p t.end.leaf t.at r.place r.separator) × (TicketGiven next cutoff tickets p.place p.separator r.place r.separator tickets')

-- ---- one leaf, behind which stands the cursor `at`

module _ (size : ℕ) (list : List Entry) (store page : List ℕ) (s : Span) (p : Progress) (leaf : Gauge) (at : Cursor) where
  -- what the leaf is taken off, the leaf, and what remains
  abbrev pub before : List Record
  before = records_from s list store page p.at

  abbrev pub taken : List Record
  taken = take leaf.count before

  abbrev pub behind : List Record
  behind = records_from s list store page at

  -- area and tickets have these lengths
  pub record LeafThere (area tickets : ℕ) : Type 0 where
    pub kept : Kept list store page s
    pub from_in : CursorIn list page s p.at
    pub behind_in : CursorIn list page s at
    pub fits : LeafFits size leaf before
    pub rest : drop leaf.count before ≡ behind
    pub some_record : 0 < leaf.count
    pub rise : is_rising before ≡ true
    pub count_is : p.left.count ≡ length before
    pub bytes_is : p.left.bytes ≡ total before
    pub page_room_lem : p.leaves * size + size ≤ area
    pub ticket_room : p.place + 65 ≤ tickets

  pub record LeafGiven (cutoff : Option (List ℕ)) (area tickets : List ℕ) (r : Progress) (area' tickets' : List ℕ) : Type 0 where
    pub area_is : area' ≡ put area (p.leaves * size) (build size taken)
    pub tickets_are : tickets' ≡ put tickets p.place (packed_with p.separator (leaf_cutoff taken behind cutoff))
    pub at_is : r.at ≡ at
    pub leaves_are : r.leaves ≡ p.leaves + 1
    pub place_is : r.place ≡ p.place + length (packed_with p.separator (leaf_cutoff taken behind cutoff))
    pub short : r.place ≤ p.place + 65
    pub separator_is : r.separator ≡ next_separator p.separator taken behind
    pub count_is : r.left.count ≡ length behind
    pub bytes_is : r.left.bytes ≡ total behind

-- ---- leaf after leaf

module _ (size : ℕ) (w : Work) (list : List Entry) (store page area tickets : List ℕ) where
  -- the leaves of c have been given out, and what it leaves stands behind the cursor
  pub record Along (c : Cut) (p : Progress) (area' tickets' : List ℕ) : Type 0 where
    pub area_is : area' ≡ overwrite (joined (map (build size) c.leaves)) area
    pub tickets_are : tickets' ≡ overwrite (tickets_of (leaves_by (separator_of w) (cutoff_of w) c)) tickets
    pub leaves_are : p.leaves ≡ length c.leaves
    pub place_is : p.place ≡ length (tickets_of (leaves_by (separator_of w) (cutoff_of w) c))
    pub short : p.place ≤ p.leaves * 65
    pub there : CursorIn list page (span_of w) p.at
    pub left_is : records_from (span_of w) list store page p.at ≡ c.left
    pub count_is : p.left.count ≡ length c.left
    pub bytes_is : p.left.bytes ≡ total c.left
    pub separator_is : p.separator ≡ separator_after (separator_of w) c.leaves c.left
    pub whole : joined c.leaves ++ c.left ≡ pending size w list store page
    pub fits : All (Fits size) c.leaves

-- ---- where giving begins

module _ (size : ℕ) (w : Work) (list : List Entry) (store page : List ℕ) where
  pub record Begun (p : Progress) : Type 0 where
    pub at_is : p.at ≡ first_cursor
    pub leaves_are : p.leaves ≡ 0
    pub place_is : p.place ≡ 0
    pub count_is : p.left.count ≡ length (pending size w list store page)
    pub bytes_is : p.left.bytes ≡ total (pending size w list store page)
    pub separator_is : p.separator ≡ separator_of w

-- what the list has
abbrev pub listed_in : Work → Gauge
listed_in w = record { count = w.count; bytes = w.bytes }

module _ (size : ℕ) (w : Work) (page : List ℕ) (n : ℕ) where
  pub record BegunBy (b : Beginning) : Type 0 where
    pub at_is : b.start.at ≡ first_cursor
    pub leaves_are : b.start.leaves ≡ 0
    pub place_is : b.start.place ≡ 0
    pub count_is : b.start.left.count ≡ w.count + (n - w.low)
    pub bytes_is : b.start.left.bytes ≡ w.bytes + values_size page w.low n
    pub separator_is : b.start.separator ≡ separator_of w
    pub target_is : b.target ≡ target_of size (body_of b.start.left)

-- ---- cutting

-- what a leaf aims at in a page of so many bytes
abbrev pub aim_of : ℕ → ℕ → Aim
aim_of size target = record { target = target; limit = body_limit size }
