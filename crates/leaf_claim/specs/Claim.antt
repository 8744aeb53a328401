-- Demand 3, as one claim about the whole sequence: a field for each of its sentences, over what the calls are lent, answer and leave. Nothing is
-- read of the work record, which the calls themselves write: it is handed from call to call, and what is said of it is what was told.
use Rattle.std.specs.Prelude.{◌≡◌, Bool, true, false, List, [], ◌∷◌, ◌++◌, ℕ, leb, length}
use Rattle.std.proofs.Math.Option.{Option, none, some}
use Rattle.refusal.specs.Refusal.{accepted, out_of_turn, long_value, key_too_low, key_past_cutoff, list_full, store_full, short_area}
use Rattle.leaf_node.specs.Record.{Record, total}
use Rattle.leaf_node.specs.Page.{records}
use Rattle.leaf_node.specs.Fits.{All, Rising}
use Rattle.leaf_model.specs.Cut.{Cut, cut_as_written}
use Rattle.leaf_model.specs.Work.{Leaf, zero_key, or_else, below_cutoff, may_come, change_fits, finished, turn_after, override_after, floor_after, leaves_by, is_open, is_waiting, awaits_base, reaches_cutoff}
use Rattle.leaf_model.specs.Tally.{changed}
use Rattle.leaf_model.specs.Claim.{records_of, BodyRight, BoundsRight, LinksRight}
use Rattle.leaf_work.specs.declared.Work.{Work}
use Rattle.leaf_work.specs.declared.Entry.{Entry}
use Rattle.leaf_work.specs.Tests.{key_if}
use Rattle.leaf_work.specs.Verdict.{unless, first, base_verdict, has_pages, Opening, with_base_lem, with_none}
use Rattle.leaf_work.specs.Outcome.{twin_of}
use Rattle.leaf_work.specs.Digest.{pages_of, tickets_of, overwrite, digest_reply_by}
use Rattle.leaf_claim.specs.Told.{Told, current_separator, told_digest}
use Rattle.leaf_claim.specs.Sequence.{Call, ingest, digest, next_base, remove_cutoff, Given, lent, Happened, Course, leaves_in, leaves_of, Answers}

-- ---- the calls that can be made: keys have 32 bytes

abbrev pub FormedOpening : Opening → Type 0
FormedOpening (with_base_lem page separator cut cutoff) = (length separator ≡ 32) × (length cutoff ≡ 32)
FormedOpening (with_none cut) = Unit {0}

abbrev pub Formed : Call → Type 0
Formed (ingest any key c) = length key ≡ 32
Formed (digest any area tickets) = Unit {0}
Formed (next_base page separator cut cutoff) = (length separator ≡ 32) × (length cutoff ≡ 32)
Formed remove_cutoff = Unit {0}

-- ---- what the papers say of a call, by what was told and the pending records

-- a cutoff is there
abbrev pub has_cutoff : Option (List ℕ) → Bool
has_cutoff none = false
has_cutoff (some c) = true

-- The rows of the table that are left for a call of a sequence: what the sequence itself hands on earns none of Nos. 1 to 8. `entries` and `bytes`
-- are the lengths of list and store.
module _ (size : ℕ) (t : Told) (pending : List Record) (entries bytes : ℕ) where
  abbrev pub table_says : Call → ℕ
  table_says (ingest any k c) =
      unless out_of_turn (is_open t.turn)
      (unless long_value (change_fits size c)
      (unless key_too_low (may_come t.floor t.last k)
      (unless key_past_cutoff (below_cutoff t.cutoff k)
      (unless list_full (leb (length (changed k c pending)) entries)
      (unless store_full (leb (total (changed k c pending)) bytes) accepted)))))
  table_says (digest any area tickets) = unless out_of_turn (is_open t.turn) (unless short_area (has_pages size pending area tickets) accepted)
  table_says (next_base page separator cut cutoff) =
      first (base_verdict size page separator (key_if cut cutoff))
      (unless out_of_turn (awaits_base t.turn)
      (unless out_of_turn (has_cutoff t.cutoff)
      (unless key_too_low (reaches_cutoff t.cutoff separator)
      (unless list_full (leb (length (pending ++ records page)) entries)
      (unless store_full (leb (total (pending ++ records page)) bytes) accepted)))))
  table_says remove_cutoff = unless out_of_turn (is_waiting t.turn) accepted

-- steps 1 to 4 of a digest, as document 01 tells them: the leaves that are cut, and the records that are kept
abbrev pub steps_say : ℕ → Told → List Record → Cut
steps_say size t pending = finished size t.cutoff (cut_as_written size pending)

-- step 5: those leaves with their separators and cutoffs
abbrev pub leaves_said : ℕ → Told → List Record → List Leaf
leaves_said size t pending = leaves_by (current_separator t) t.cutoff (steps_say size t pending)

-- what a digest that is accepted gave, area and tickets having been lent; `t` is what was told before it
pub record Digests (size : ℕ) (t : Told) (pending : List Record) (area tickets : List ℕ) (gave : List Given) : Type 0 where
  pub given : Given
  pub once : gave ≡ given ∷ []
  -- the leaves with their tickets, read from area and tickets
  pub leaves : leaves_in size given ≡ leaves_said size t pending
  -- "Each leaf goes into the lent area as one page, in order, and gets a ticket in a second buffer, packed"; "Later bytes of both buffers keep
  -- what they held."
  pub pages : given.area ≡ overwrite (pages_of size (leaves_said size t pending)) area
  pub packed : given.tickets ≡ overwrite (tickets_of (leaves_said size t pending)) tickets
  -- "how many leaves it gave, and done, or the cutoff for which it waits"; where there is no cutoff, nothing is kept
  pub reply : given.reply ≡ digest_reply_by (steps_say size t pending).left (length (steps_say size t pending).leaves) (or_else t.cutoff zero_key)
  -- what is told after it: the turn, by which all later calls are answered;
  pub turn : (told_digest given.reply given.tickets t).turn ≡ turn_after (steps_say size t pending).left
  -- "the override becomes the base's separator if there was none"; "that is the override for those records"; "Done clears the override";
  pub override : (told_digest given.reply given.tickets t).override
      ≡ override_after (current_separator t) (steps_say size t pending).leaves (steps_say size t pending).left
  -- "after a merge request at or above the cutoff it named"
  pub floor : (told_digest given.reply given.tickets t).floor ≡ floor_after t.floor t.cutoff (steps_say size t pending).left

-- ---- how the pending records are read of work, list, store and page

-- "what the twin call [..] answers from index 0 up to refusal 10, with the bytes at the place named"
abbrev pub ByTwins : ℕ → Work → List Entry → List ℕ → List ℕ → List Record → Type 0
ByTwins size w list store page rs = Answers (twin_of size w list store page) store page 0 rs

module _ (size : ℕ) (Reads : Work → List Entry → List ℕ → List ℕ → List Record → Type 0) where
  -- ---- of a call of the sequence

  pub record Answered (x : Happened) : Type 0 where
    -- the records pending before it, given what it was given
    pub pending : List Record
    pub twins : (any : List ℕ) → Reads x.before.work x.before.list x.before.store (lent x.before any) pending
    -- "calls are accepted and refused as the papers say"
    pub number : x.answer ≡ table_says size x.before.told pending (length x.before.list) (length x.before.store) x.call
    -- "every accepted digest gives the leaves, tickets and turn of the five steps"
    pub digests : (any area tickets : List ℕ) → x.call ≡ digest any area tickets → x.answer ≡ accepted → Digests size x.before.told pending area tickets x.gave

  -- ---- the claim, of a whole sequence

  pub record Claim (c : Course) : Type 0 where
    -- "Pending records, the base's rest among them, are what the twin call, given work, list, store and page as a next call of the sequence would
    -- get them, answers from index 0 up to refusal 10, with the bytes at the place named."
    pub pending : List Record
    pub twins : (any : List ℕ) → Reads c.now.work c.now.list c.now.store (lent c.now any) pending
    -- "records of the leaves given out, then the pending ones, equal the tally, in every key, value and flag"
    pub tally : records_of (leaves_of size c.now.given) ++ pending ≡ c.now.tally
    -- "keys strictly ascending"
    pub rising : Rising c.now.tally
    -- each call was answered as the table says, and each accepted digest gave what the five steps say
    pub calls : All Answered c.past
    -- "a leaf's body is at most 4,094, at least 2,047 unless it has no cutoff"
    pub bodies : All (BodyRight size) (leaves_of size c.now.given)
    -- "its separator is at or below its first key, its cutoff above its last"
    pub bounds : All BoundsRight (leaves_of size c.now.given)
    -- "a leaf that isn't its digest's last, or whose digest answered a merge request, has the next leaf's separator as its cutoff, as soon
    -- as a next leaf is given"
    pub linked : LinksRight (leaves_of size c.now.given)
