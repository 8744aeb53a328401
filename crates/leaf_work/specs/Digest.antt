-- Document 01, "Digest, step by step": the reply, and every lent byte after the call. A refused digest leaves all as it was, and its reply is its number.
use Rattle.std.specs.Prelude.{true, false, cond, List, [], ◌∷◌, ◌++◌, map, ℕ, ◌+◌, ◌-◌, eqb, length, drop, replicate}
use Rattle.refusal.specs.Refusal.{accepted}
use Rattle.bit_ops.specs.Steps.{zeros}
use Rattle.leaf_node.specs.Record.{Record, values, total}
use Rattle.leaf_node.specs.Build.{build}
use Rattle.leaf_node.specs.Ticket.{Ticket, packed_all}
use Rattle.leaf_model.specs.Basics.{joined, nonempty}
use Rattle.leaf_model.specs.Cut.{Cut}
use Rattle.leaf_model.specs.Work.{Leaf, zero_key, plan, leaves_by, separator_after, floor_after, turn_after}
use Rattle.leaf_work.specs.declared.Work.{Work}
use Rattle.leaf_work.specs.declared.Entry.{Entry}
use Rattle.leaf_work.specs.Tests.{bit}
use Rattle.leaf_work.specs.Lent.{blank, insert_at, turn_number, cutoff_of, separator_of, regarded}
use Rattle.leaf_work.specs.Pending.{pending_of}
use Rattle.leaf_work.specs.Verdict.{lent_verdict, digest_verdict}

-- "It answers how many leaves it gave, and done, or the cutoff for which it waits."
pub data DigestReply : Type 0 where
  DigestRefused : ℕ → DigestReply
  Finished : ℕ → DigestReply
  Merge : ℕ → List ℕ → DigestReply

abbrev pub digest_number : DigestReply → ℕ
digest_number (DigestRefused n) = n
digest_number (Finished leaves) = accepted
digest_number (Merge leaves cutoff) = accepted

pub record Digested : Type 0 where
  pub reply : DigestReply
  pub work : Work
  pub list : List Entry
  pub store : List ℕ
  pub area : List ℕ
  pub tickets : List ℕ

abbrev pub ticket_of : Leaf → Ticket
ticket_of l = record { separator = l.separator; cutoff = l.cutoff }

-- "Each leaf goes into the lent area as one page, in order, and gets a ticket in a second buffer, packed"
abbrev pub pages_of : ℕ → List Leaf → List ℕ
pages_of size ls = joined (map (λ l. build size l.records) ls)

abbrev pub tickets_of : List Leaf → List ℕ
tickets_of ls = packed_all (map ticket_of ls)

-- "Later bytes of both buffers keep what they held."
abbrev pub overwrite : {A : Type 0} → List A → List A → List A
overwrite new old = new ++ drop (length new) old

-- kept records as inserts, their values from `at` on
abbrev pub inserts_of : ℕ → List Record → List Entry
inserts_of at [] = []
inserts_of at (r ∷ rs) = insert_at at (at + length r.value) r.key (bit r.flag) ∷ inserts_of (at + length r.value) rs

abbrev pub digest_reply_by : List Record → ℕ → List ℕ → DigestReply
digest_reply_by [] leaves cutoff = Finished leaves
digest_reply_by (r ∷ rs) leaves cutoff = Merge leaves cutoff

abbrev pub digest_work : Work → Cut → Work
digest_work w p = record {
  turn = turn_number (turn_after p.left);
  based = w.based;
  mode = w.mode;
  low = 0;
  used = length p.left;
  filled = total p.left;
  count = length p.left;
  bytes = total p.left;
  latest = w.latest;
  cut = w.cut;
  cutoff = w.cutoff;
  over = bit (nonempty p.left);
  overriding = cond (nonempty p.left) (separator_after (separator_of w) p.leaves p.left) zero_key;
  floor = floor_after w.floor (cutoff_of w) p.left;
  taken = w.taken;
  last = w.last;
}

module _ (size : ℕ) (w : Work) (list : List Entry) (store area tickets : List ℕ) where
  -- p: the leaves that are cut, and the records that are kept
  abbrev pub digest_done : Cut → Digested
  digest_done p = record {
    reply = digest_reply_by p.left (length p.leaves) w.cutoff;
    work = digest_work w p;
    list = inserts_of 0 p.left ++ replicate (length list - length p.left) blank;
    store = values p.left ++ zeros (length store - total p.left);
    area = overwrite (pages_of size (leaves_by (separator_of w) (cutoff_of w) p)) area;
    tickets = overwrite (tickets_of (leaves_by (separator_of w) (cutoff_of w) p)) tickets;
  }

  unfoldable pub digest_on : List Record → ℕ → Digested
  digest_on pending lent = elim (eqb (digest_verdict size w pending area tickets lent) accepted) [
    | true ↦ digest_done (plan size (cutoff_of w) pending)
    | false ↦ record {
      reply = DigestRefused (digest_verdict size w pending area tickets lent);
      work = w;
      list = list;
      store = store;
      area = area;
      tickets = tickets;
    }
  ]

abbrev pub digest_of : ℕ → Work → List Entry → List ℕ → List ℕ → List ℕ → List ℕ → Digested
digest_of size w list store page area tickets =
    digest_on size w list store area tickets (pending_of w list store (regarded w page)) (lent_verdict size w list store page)
