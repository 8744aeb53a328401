-- A sequence of the exported calls, each of which is known by its contract alone (`leaf_updater/specs/Calls.antt`,
-- `digest/specs/Digests.antt`): what a call is lent beside the page and its arguments is what the last one left. Document 01, "The tally of
-- demand 3".
use Rattle.std.specs.Prelude.{◌≡◌, Bool, true, false, cond, List, [], ◌∷◌, ◌++◌, ℕ, suc, length}
use Rattle.std.proofs.Math.Option.{Option}
use Rattle.refusal.specs.Refusal.{accepted, no_such_index}
use Rattle.leaf_node.specs.Record.{Record}
use Rattle.leaf_model.specs.Work.{Change}
use Rattle.leaf_work.specs.declared.Work.{Work}
use Rattle.leaf_work.specs.declared.Entry.{Entry}
use Rattle.leaf_work.specs.Tests.{is_zero, key_if}
use Rattle.leaf_work.specs.Verdict.{Opening}
use Rattle.leaf_work.specs.Outcome.{twin_of, part_of}
use Rattle.leaf_work.specs.Digest.{DigestReply, DigestRefused, Finished, Merge}
use Rattle.leaf_pending.specs.declared.TwinPlace.{TwinPlace}
use Rattle.leaf_pending.specs.Reply.{twin_out}
use Rattle.leaf_take.specs.declared.LeafReport.{LeafReport}
use Rattle.leaf_digest.specs.declared.LeafGave.{LeafGave}
use Rattle.digest.specs.Digests.{DigestSays}
use Rattle.leaf_updater.specs.Calls.{OpenSays, IngestSays, NextBaseSays, RemoveCutoffSays}
use Rattle.leaf_claim.specs.Told.{told_opening, told_ingest, told_digest, told_next_base, told_removal}
use Rattle.leaf_claim.specs.Sequence.{Call, ingest, digest, next_base, remove_cutoff, Given, State, Course, lent, opened_tally, opened_page, fed, given_by}
use Rattle.leaf_claim.specs.Claim.{FormedOpening}

-- a digest's reply by its numbers
abbrev pub gave_in : LeafGave → DigestReply
gave_in r = elim (is_zero r.refusal) [
  | true ↦ elim (is_zero r.waiting) [ true ↦ Finished r.leaves | false ↦ Merge r.leaves r.cutoff ]
  | false ↦ DigestRefused r.refusal
]

-- a sequence goes on with a call, which answered a number, gave something if it is an accepted digest, and left a state
abbrev pub goes_on : Course → Call → ℕ → List Given → State → Course
goes_on c x answer gave s = record { now = s; past = c.past ++ (record { before = c.now; call = x; answer = answer; gave = gave } ∷ []) }

-- The courses that the calls can take. Whether a call was refused is read from its own answer; "it is fed only the calls .. and whether each was refused".
pub data Run : Course → Type 0 where
  opened : (every : Bool) (x : Opening) → FormedOpening x → (w w' : Work) (list list' : List Entry) (store store' : List ℕ) (r : ℕ)
      → OpenSays every x w list store r w' list' store' → r ≡ 0
      → Run (record {
        now = record { work = w'; list = list'; store = store'; page = opened_page x; told = told_opening x; given = []; tally = opened_tally x };
        past = [];
      })
  ingested : {c : Course} → Run c → (any key : List ℕ) (x : Option Change) → length key ≡ 32 → (r : LeafReport) (w' : Work) (list' : List Entry) (store' : List ℕ)
      → IngestSays c.now.work c.now.list c.now.store (lent c.now any) key x r w' list' store'
      → Run (goes_on c (ingest any key x) r.refusal [] (record {
        work = w';
        list = list';
        store = store';
        page = c.now.page;
        told = cond (is_zero r.refusal) (told_ingest key c.now.told) c.now.told;
        given = c.now.given;
        tally = fed (ingest any key x) (is_zero r.refusal) c.now.tally;
      }))
  digested : {c : Course} → Run c → (any area tickets : List ℕ) (r : LeafGave) (w' : Work) (list' : List Entry) (store' area' tickets' : List ℕ)
      → DigestSays c.now.work c.now.list c.now.store (lent c.now any) area tickets r w' list' store' area' tickets'
      → Run (goes_on c (digest any area tickets) r.refusal (given_by (gave_in r) area' tickets') (record {
        work = w';
        list = list';
        store = store';
        page = c.now.page;
        told = told_digest (gave_in r) tickets' c.now.told;
        given = c.now.given ++ given_by (gave_in r) area' tickets';
        tally = c.now.tally;
      }))
  based : {c : Course} → Run c → (page separator : List ℕ) (cut : Bool) (cutoff : List ℕ) → length separator ≡ 32 → length cutoff ≡ 32 → (r : ℕ) (w' : Work)
      → NextBaseSays c.now.work c.now.list c.now.store page separator cut cutoff r w'
      → Run (goes_on c (next_base page separator cut cutoff) r [] (record {
        work = w';
        list = c.now.list;
        store = c.now.store;
        page = cond (is_zero r) page c.now.page;
        told = cond (is_zero r) (told_next_base separator (key_if cut cutoff) c.now.told) c.now.told;
        given = c.now.given;
        tally = fed (next_base page separator cut cutoff) (is_zero r) c.now.tally;
      }))
  uncut : {c : Course} → Run c → (r : ℕ) (w' : Work) → RemoveCutoffSays c.now.work c.now.list c.now.store r w'
      → Run (goes_on c remove_cutoff r [] (record {
        work = w';
        list = c.now.list;
        store = c.now.store;
        page = c.now.page;
        told = cond (is_zero r) (told_removal c.now.told) c.now.told;
        given = c.now.given;
        tally = c.now.tally;
      }))

-- ---- the pending records, by the struct that `leaf_twin` answers and the bytes that `part` hands back

-- "from index 0 up to refusal 10, with the bytes at the place named"
pub data Answers (twin : ℕ → TwinPlace) (part : ℕ → List ℕ) : ℕ → List Record → Type 0 where
  stop : {i : ℕ} → (twin i).refusal ≡ no_such_index → Answers twin part i []
  more : {i : ℕ} {rs : List Record} → (twin i).refusal ≡ accepted → Answers twin part (suc i) rs
      → Answers twin part i (record { key = (twin i).key; value = part i; flag = (twin i).flag } ∷ rs)

-- whatever answers as the contracts of `leaf_twin` and `part` say
abbrev pub ByCalls : Work → List Entry → List ℕ → List ℕ → List Record → Type 0
ByCalls w list store page rs =
    (twin : ℕ → TwinPlace) (part : ℕ → List ℕ) → ((i : ℕ) → twin i ≡ twin_out (twin_of 4096 w list store page i)) → ((i : ℕ) → part i ≡ part_of 4096 w list store page i)
    → Answers twin part 0 rs
