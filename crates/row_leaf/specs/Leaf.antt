-- Document 02, M-101: which leaf a turn is about, which changes it takes, and how it is copied.
use Rattle.std.specs.Prelude.{◌≡◌, Bool, true, false, cond, ◌||◌, List, [], ◌∷◌, ℕ, suc, ◌+◌, ◌*◌, ◌≤◌, ◌<◌, leb, ltb, length, get_or, take, drop, slice_get, Some, None, is_some, unwrap_or, IfSome, Result, IfOk}
use Rattle.std.proofs.Math.Option.{Option}
use Rattle.refusal.specs.declared.Refusal.{Refusal}
use Rattle.refusal.specs.Numbers.{number_of}
use Rattle.leaf_node.specs.Build.{put}
use Rattle.leaf_node.specs.Page.{count}
use Rattle.leaf_node.specs.Good.{Good}
use Rattle.leaf_node.specs.Steps.{Laid}
use Rattle.leaf_model.specs.Work.{zero_key, below_cutoff}
use Rattle.leaf_work.specs.declared.Work.{Work}
use Rattle.leaf_work.specs.Tests.{key_if}
use Rattle.leaf_work.specs.Verdict.{follows_verdict}
use Rattle.leaf_work.specs.Outcome.{fresh_work, next_base_work}
use Rattle.row_changes.specs.Packed.{key_of}
use Rattle.row_tickets.specs.Linked.{separator_at, linked}
use Rattle.row_leaf.specs.declared.LeafAt.{LeafAt}
use Rattle.row_leaf.specs.declared.RowAt.{RowAt}

-- ---- the leaf

-- "each leaf's cutoff being the next separator, the last having none"; "an empty row opens without a base"
abbrev pub leaf_at : List (List ℕ) → ℕ → LeafAt
leaf_at separators i = elim (leb (length separators) i) [
  | true ↦ record { page = None; separator = zero_key; cutoff = None }
  | false ↦ record { page = Some (i * 4096); separator = get_or separators i []; cutoff = slice_get separators (i + 1) }
]

-- "`Option<Key>`: a flag beside a key, zeros when absent"
abbrev pub is_cut : LeafAt → Bool
is_cut leaf = is_some leaf.cutoff

abbrev pub cutoff_key : LeafAt → List ℕ
cutoff_key leaf = unwrap_or leaf.cutoff zero_key

abbrev pub cutoff_in : LeafAt → Option (List ℕ)
cutoff_in leaf = key_if (is_cut leaf) (cutoff_key leaf)

abbrev pub is_based : LeafAt → Bool
is_based leaf = is_some leaf.page

abbrev pub page_in : LeafAt → List ℕ → List ℕ
page_in leaf pages = elim leaf.page [ Some from ↦ take 4096 (drop from pages) | None ↦ [] ]

-- its page is one of these
pub record PageThere (leaf : LeafAt) (pages : List ℕ) : Type 0 where
  pub inside : IfSome leaf.page (λ from. from + 4096 ≤ length pages)

-- a leaf of the row has a good page
pub record BaseThere (leaf : LeafAt) (pages : List ℕ) : Type 0 where
  pub there : PageThere leaf pages
  pub good : is_based leaf ≡ true → Good 4096 (page_in leaf pages)

-- ---- its changes

-- how many of rising changes lie below a cutoff
abbrev pub count_below : Option (List ℕ) → List (List ℕ) → ℕ
count_below c [] = 0
count_below c (x ∷ xs) = elim (below_cutoff c (key_of x)) [ true ↦ suc (count_below c xs) | false ↦ 0 ]

abbrev pub changes_end : List (List ℕ) → ℕ → LeafAt → ℕ
changes_end changes from leaf = from + count_below (cutoff_in leaf) (drop from changes)

-- "Load only leaves whose range takes a change's key, or that a merge asks for."
abbrev pub is_loaded : RowAt → ℕ → Bool
is_loaded at to = ltb at.change to || is_some at.waiting

-- ---- "Others are copied over with their separators."

pub record CopyThere (at : RowAt) (leaf : LeafAt) (pages area tickets : List ℕ) : Type 0 where
  pub page_there : PageThere leaf pages
  pub area_room : at.leaves * 4096 + 4096 ≤ length area
  pub ticket_room : 65 * at.leaves + 65 ≤ length tickets
  pub fits : at.leaves + 1 < 18446744073709551616

abbrev pub copied_by : RowAt → List ℕ → RowAt
copied_by at last = record { leaves = at.leaves + 1; last = last; change = at.change; value = at.value; waiting = None }

pub record LeafCopied (at : RowAt) (leaf : LeafAt) (pages area tickets : List ℕ) (r : RowAt) (area' tickets' : List ℕ) : Type 0 where
  pub is : r ≡ copied_by at (separator_at at.leaves leaf.separator)
  pub area_is : area' ≡ put area (at.leaves * 4096) (page_in leaf pages)
  pub tickets_are : tickets' ≡ linked at.leaves at.last leaf.separator tickets

-- ---- the work of a leaf that is loaded

-- a page behind what waits is a good one: no more records than the list has entries, and no more bytes than the store
pub record Begins (at : RowAt) (page : List ℕ) (entries bytes : ℕ) : Type 0 where
  pub laid : is_some at.waiting ≡ true → Laid page (count page)
  pub few : is_some at.waiting ≡ true → count page ≤ entries
  pub short : is_some at.waiting ≡ true → length page ≤ bytes

-- "a merge asks for" it: the next base, which room may refuse; else it is opened
abbrev pub begin_verdict : RowAt → LeafAt → List ℕ → ℕ → ℕ → ℕ
begin_verdict at leaf page entries bytes = elim at.waiting [ Some w ↦ follows_verdict w page leaf.separator entries bytes | None ↦ 0 ]

abbrev pub begun_by : RowAt → LeafAt → Work
begun_by at leaf = elim at.waiting [
  | Some w ↦ next_base_work w leaf.separator (is_cut leaf) (cutoff_key leaf)
  | None ↦ fresh_work false (is_based leaf) (cond (is_based leaf) leaf.separator zero_key) (is_cut leaf) (cutoff_key leaf)
]

pub record LeafBegun (at : RowAt) (leaf : LeafAt) (page : List ℕ) (entries bytes : ℕ) (r : Result Work Refusal) : Type 0 where
  pub number_is : number_of r ≡ begin_verdict at leaf page entries bytes
  pub work_is : IfOk r (λ w. w ≡ begun_by at leaf)
