-- A leaf that is loaded where nothing waits: its work is opened, and its records are pending. Assumes nothing.
use mathlib.Core.Path.{◌≡◌, refl, sym, ap, subst, ◌∙◌}
use mathlib.Core.Bool.{Bool, true, false}
use mathlib.Core.List.{List, []}
use Prim.Native.Nat.{ℕ}
use lib.ListN.{length, replicate}
use Rattle.bit_ops.specs.Steps.{zeros}
use Rattle.leaf_node.specs.Limits.{PageSize}
use Rattle.leaf_node.specs.Record.{Record}
use Rattle.leaf_node.specs.Page.{records}
use Rattle.leaf_node.specs.Fits.{All}
use Rattle.leaf_model.specs.Work.{zero_key, below_cutoff}
use Rattle.leaf_model.specs.Claim.{Le}
use Rattle.leaf_model.proofs.Lists.{all_map}
use Rattle.leaf_model.proofs.Keys.{test_of_le}
use Rattle.leaf_work.specs.declared.Work.{Work}
use Rattle.leaf_work.specs.declared.Entry.{Entry}
use Rattle.leaf_work.specs.Tests.{key_if}
use Rattle.leaf_work.specs.Lent.{blank, room_right, cutoff_of, separator_of, regarded}
use Rattle.leaf_work.specs.Pending.{pending_of}
use Rattle.leaf_work.specs.Sound.{lets_in}
use Rattle.leaf_work.specs.Verdict.{base_verdict, Opening, with_base_lem, with_none, open_verdict}
use Rattle.leaf_work.specs.Outcome.{fresh_work, open_work}
use Rattle.leaf_work.proofs.Tests.{kept_key}
use Rattle.leaf_work.proofs.Laid.{pending_parts}
use Rattle.leaf_claim.specs.Sequence.{opened_tally, opened_page}
use Rattle.leaf_claim.specs.Claim.{FormedOpening}
use Rattle.leaf_claim.proofs.Reached.{Reached}
use Rattle.leaf_claim.proofs.OpeningStep.{opened_state, accepted_opening_is, accepted_opening_reaches_a_state}
use Rattle.row_turns.specs.Changes.{Edit, EditsRight}
use Rattle.row_work.specs.Loaded.{Holding, Loaded}
use Rattle.row_work.proofs.Holds.{a_reached_work_holds}

-- what an opened leaf is: where it begins and ends, and its records
pub record Opens (w : Work) (list : List Entry) (store page sep : List ℕ) (cut : Bool) (key : List ℕ) (rs : List Record) : Type 0 where
  pub separator : separator_of w ≡ sep
  pub cutoff : cutoff_of w ≡ key_if cut key
  pub pending_is : pending_of w list store page ≡ rs

lets_in_lem : (floor k : List ℕ) → Le floor k → (w : Work) → w.floor ≡ floor → w.taken ≡ 0 → lets_in w k ≡ true
lets_in_lem floor k l w f t = rw (f, t, test_of_le floor k l)

module _ (size : ℕ) (q : PageSize size) (list : List Entry) (store : List ℕ) (list_clear : list ≡ replicate (length list) blank) (store_clear : store ≡ zeros (length store))
    (room : room_right size (length list) (length store) ≡ true) where
  module _ (x : Opening) (f : FormedOpening x) (v : open_verdict size x list store ≡ 0) where
    abbrev w : Work
    w = open_work false x

    reached : Reached size (opened_state false x (length list) (length store))
    reached = subst (Reached size) (accepted_opening_is size false x w list store v) (accepted_opening_reaches_a_state size q false x f w list store v)

    holds : Holding size w list store (opened_page x)
    holds =
        subst (λ (l : List Entry). Holding size w l store (opened_page x)) (sym list_clear)
        (subst (λ (b : List ℕ). Holding size w (replicate (length list) blank) b (opened_page x)) (sym store_clear) (a_reached_work_holds size _ reached))

    tally : pending_of w list store (regarded w (opened_page x)) ≡ opened_tally x
    tally =
        ap (λ (l : List Entry). pending_of w l store (regarded w (opened_page x))) list_clear
        ∙ ap (λ (b : List ℕ). pending_of w (replicate (length list) blank) b (regarded w (opened_page x))) store_clear
        ∙ pending_parts w (replicate (length list) blank) (zeros (length store)) (regarded w (opened_page x))
        ∙ reached.canonical.invariant.tally

  -- a leaf of a row
  module _ (page sep : List ℕ) (cut : Bool) (key : List ℕ) (es : List Edit) (base : base_verdict size page sep (key_if cut key) ≡ 0) (sep-long : length sep ≡ 32) (key_long : length key ≡ 32)
      (right : EditsRight size es) (above : All (λ e. Le sep e.key) es) (below : All (λ e. below_cutoff (key_if cut key) e.key ≡ true) es) where
    abbrev x : Opening
    x = with_base_lem page sep cut key

    verdict : open_verdict size x list store ≡ 0
    unfolding open_verdict
    verdict = rw (base, room)

    abbrev pub leaf_work : Work
    leaf_work = fresh_work false true sep cut key

    pub an_opened_leaf_is_loaded : Loaded size leaf_work list store page es
    an_opened_leaf_is_loaded = record {
      holds = holds x (sep-long, key_long) verdict;
      opened = refl;
      whole = refl;
      edits = right;
      lets = all_map (λ e l. lets_in_lem sep e.key l leaf_work refl refl) above;
      below = rw (kept_key cut key) below;
    }

    pub an_opened_leaf_has_its_records : Opens leaf_work list store page sep cut key (records page)
    an_opened_leaf_has_its_records = record { separator = refl; cutoff = kept_key cut key; pending_is = tally x (sep-long, key_long) verdict }

  -- "an empty row opens without a base"
  module _ (es : List Edit) (right : EditsRight size es) (above : All (λ e. Le zero_key e.key) es) (below : All (λ e. below_cutoff (key_if false zero_key) e.key ≡ true) es) where
    bare_verdict : open_verdict size (with_none false) list store ≡ 0
    unfolding open_verdict
    bare_verdict = rw room

    abbrev pub bare_work : Work
    bare_work = fresh_work false false zero_key false zero_key

    pub an_empty_row_is_loaded : Loaded size bare_work list store [] es
    an_empty_row_is_loaded = record {
      holds = holds (with_none false) tt bare_verdict;
      opened = refl;
      whole = refl;
      edits = right;
      lets = all_map (λ e l. lets_in_lem zero_key e.key l bare_work refl refl) above;
      below = below;
    }

    pub an_empty_row_has_no_records : Opens bare_work list store [] zero_key false zero_key []
    an_empty_row_has_no_records = record { separator = refl; cutoff = refl; pending_is = tally (with_none false) tt bare_verdict }
