-- Document 01, "The tally of demand 3": a sequence of calls from an opening, over the bytes that the calls are lent and leave.
use Rattle.std.specs.Prelude.{◌≡◌, Bool, true, false, cond, List, [], ◌∷◌, ◌++◌, ℕ, zero, suc, eqb, take, drop}
use Rattle.std.proofs.Math.Option.{Option}
use Rattle.refusal.specs.Refusal.{accepted, no_such_index}
use Rattle.leaf_node.specs.Record.{Record}
use Rattle.leaf_node.specs.Page.{records}
use Rattle.leaf_node.specs.Ticket.{Ticket, read_tickets}
use Rattle.leaf_model.specs.Work.{Change, Leaf, is_linked}
use Rattle.leaf_model.specs.Tally.{changed}
use Rattle.leaf_work.specs.declared.Work.{Work}
use Rattle.leaf_work.specs.declared.Entry.{Entry}
use Rattle.leaf_work.specs.Tests.{key_if}
use Rattle.leaf_work.specs.Pending.{Place, held}
use Rattle.leaf_work.specs.Verdict.{Opening, with_base_lem, with_none}
use Rattle.leaf_work.specs.Outcome.{reply_number, open_of, ingest_number, ingest_of, next_base_of, remove_cutoff_of, TwinReply, TwinRefused, Found}
use Rattle.leaf_work.specs.Digest.{DigestReply, DigestRefused, Finished, Merge, digest_number, digest_of}
use Rattle.leaf_claim.specs.Told.{Told, reads_page, told_opening, told_ingest, told_digest, told_next_base, told_removal}

-- "Whatever else a call takes, beside work record, list and store, is any": `any` is the page that is lent where the work ignores it.
pub data Call : Type 0 where
  ingest : (any key : List ℕ) (change : Option Change) → Call
  digest : (any area tickets : List ℕ) → Call
  next_base : (page separator : List ℕ) (cut : Bool) (cutoff : List ℕ) → Call
  remove_cutoff : Call

-- an accepted digest: its reply, and area and tickets as it left them
pub record Given : Type 0 where
  pub reply : DigestReply
  pub area : List ℕ
  pub tickets : List ℕ

-- Work record, list and store as the last call left them, which are only handed to the next one; the base page; what was told; the accepted
-- digests, earlier ones first; the tally.
pub record State : Type 0 where
  pub work : Work
  pub list : List Entry
  pub store : List ℕ
  pub page : List ℕ
  pub told : Told
  pub given : List Given
  pub tally : List Record

-- "The base page of a call is the page of the opening or of the last accepted next base; any page where the work ignores it."
abbrev pub lent : State → List ℕ → List ℕ
lent s any = cond (reads_page s.told) s.page any

-- ---- the tally: "It is fed only the calls (key, new value and flag, or page) and whether each was refused."

-- "Opening: the base page's records, or none."
abbrev pub opened_tally : Opening → List Record
opened_tally (with_base_lem page separator cut cutoff) = records page
opened_tally (with_none cut) = []

-- "Next base: the new page's records go behind." "Digest, cutoff removal, any refused call: no change."
abbrev pub fed : Call → Bool → List Record → List Record
fed (ingest any k c) taken t = cond taken (changed k c t) t
fed (digest any area tickets) taken t = t
fed (next_base page separator cut cutoff) taken t = cond taken (t ++ records page) t
fed remove_cutoff taken t = t

-- ---- a step

abbrev pub given_by : DigestReply → List ℕ → List ℕ → List Given
given_by (DigestRefused n) area tickets = []
given_by (Finished n) area tickets = record { reply = Finished n; area = area; tickets = tickets } ∷ []
given_by (Merge n c) area tickets = record { reply = Merge n c; area = area; tickets = tickets } ∷ []

-- the number that a call answers, 0 where it is accepted
abbrev pub answered : ℕ → State → Call → ℕ
answered size s (ingest any k c) = ingest_number (ingest_of size s.work s.list s.store (lent s any) k c).reply
answered size s (digest any area tickets) = digest_number (digest_of size s.work s.list s.store (lent s any) area tickets).reply
answered size s (next_base page separator cut cutoff) = reply_number (next_base_of size s.work s.list s.store page separator cut cutoff).reply
answered size s remove_cutoff = reply_number (remove_cutoff_of size s.work s.list s.store).reply

abbrev pub is_taken : ℕ → State → Call → Bool
is_taken size s x = eqb (answered size s x) accepted

-- what an accepted digest gave, as it left it; any other call gives nothing
abbrev pub gives : ℕ → State → Call → List Given
gives size s (ingest any k c) = []
gives size s (digest any area tickets) =
    let r = digest_of size s.work s.list s.store (lent s any) area tickets in given_by r.reply r.area r.tickets
gives size s (next_base page separator cut cutoff) = []
gives size s remove_cutoff = []

abbrev pub next : ℕ → State → Call → State
next size s (ingest any k c) =
    let r = ingest_of size s.work s.list s.store (lent s any) k c in
    let taken = is_taken size s (ingest any k c) in
    record {
      work = r.work;
      list = r.list;
      store = r.store;
      page = s.page;
      told = cond taken (told_ingest k s.told) s.told;
      given = s.given;
      tally = fed (ingest any k c) taken s.tally;
    }
next size s (digest any area tickets) =
    let r = digest_of size s.work s.list s.store (lent s any) area tickets in
    record {
      work = r.work;
      list = r.list;
      store = r.store;
      page = s.page;
      told = told_digest r.reply r.tickets s.told;
      given = s.given ++ gives size s (digest any area tickets);
      tally = s.tally;
    }
next size s (next_base page separator cut cutoff) =
    let r = next_base_of size s.work s.list s.store page separator cut cutoff in
    let taken = is_taken size s (next_base page separator cut cutoff) in
    record {
      work = r.work;
      list = s.list;
      store = s.store;
      page = cond taken page s.page;
      told = cond taken (told_next_base separator (key_if cut cutoff) s.told) s.told;
      given = s.given;
      tally = fed (next_base page separator cut cutoff) taken s.tally;
    }
next size s remove_cutoff =
    record {
      work = (remove_cutoff_of size s.work s.list s.store).work;
      list = s.list;
      store = s.store;
      page = s.page;
      told = cond (is_taken size s remove_cutoff) (told_removal s.told) s.told;
      given = s.given;
      tally = s.tally;
    }

abbrev pub nexts : ℕ → State → List Call → State
nexts size s [] = s
nexts size s (x ∷ xs) = nexts size (next size s x) xs

abbrev pub opened_page : Opening → List ℕ
opened_page (with_base_lem page separator cut cutoff) = page
opened_page (with_none cut) = []

-- an opening in one of M-100's modes that is lent any work record, list and store
abbrev pub opened : ℕ → Bool → Opening → Work → List Entry → List ℕ → State
opened size every x w list store =
    let r = open_of size every x w list store in
    record { work = r.work; list = r.list; store = r.store; page = opened_page x; told = told_opening x; given = []; tally = opened_tally x }

-- ---- a whole sequence: the state that it leaves, and what happened

-- a call: what it was lent and what was told before it, the number that it answered, what it gave
pub record Happened : Type 0 where
  pub before : State
  pub call : Call
  pub answer : ℕ
  pub gave : List Given

-- earlier calls first
pub record Course : Type 0 where
  pub now : State
  pub past : List Happened

abbrev pub happens : ℕ → State → Call → Happened
happens size s x = record { before = s; call = x; answer = answered size s x; gave = gives size s x }

abbrev pub happenings : ℕ → State → List Call → List Happened
happenings size s [] = []
happenings size s (x ∷ xs) = happens size s x ∷ happenings size (next size s x) xs

abbrev pub course_of : ℕ → State → List Call → Course
course_of size s xs = record { now = nexts size s xs; past = happenings size s xs }

-- ---- "Leaves given out are the first pages of an accepted digest's area, as many as it answers, with their tickets, as it leaves them"

abbrev pub leaves_answered : DigestReply → ℕ
leaves_answered (DigestRefused n) = 0
leaves_answered (Finished n) = n
leaves_answered (Merge n c) = n

abbrev pub asks_for_merge : DigestReply → Bool
asks_for_merge (DigestRefused n) = false
asks_for_merge (Finished n) = false
asks_for_merge (Merge n c) = true

abbrev pub read_pages : ℕ → ℕ → List ℕ → List (List Record)
read_pages size zero area = []
read_pages size (suc n) area = records (take size area) ∷ read_pages size n (drop size area)

-- pages and tickets as leaves; a leaf is linked where it isn't its digest's last, or its digest answered a merge request
abbrev pub read_leaves : Bool → List (List Record) → List Ticket → List Leaf
read_leaves merge [] ts = []
read_leaves merge (p ∷ ps) [] = []
read_leaves merge (p ∷ ps) (t ∷ ts) = record { records = p; separator = t.separator; cutoff = t.cutoff; linked = is_linked ps merge } ∷ read_leaves merge ps ts

abbrev pub leaves_in : ℕ → Given → List Leaf
leaves_in size g =
    let n = leaves_answered g.reply in
    read_leaves (asks_for_merge g.reply) (read_pages size n g.area) (read_tickets n g.tickets)

-- "earlier digests first"
abbrev pub leaves_of : ℕ → List Given → List Leaf
leaves_of size [] = []
leaves_of size (g ∷ gs) = leaves_in size g ++ leaves_of size gs

-- ---- "Pending records .. are what the twin call .. answers from index 0 up to refusal 10, with the bytes at the place named."

pub data Answers (twin : ℕ → TwinReply) (store page : List ℕ) : ℕ → List Record → Type 0 where
  stop : {i : ℕ} → twin i ≡ TwinRefused no_such_index → Answers twin store page i []
  more : {i : ℕ} {x : Place} {rs : List Record} → twin i ≡ Found x → Answers twin store page (suc i) rs → Answers twin store page i (held store page x ∷ rs)
