-- What the functions require, as plain facts, and small definitions that their contracts cite.
use Rattle.std.specs.Prelude.{◌≡◌, true, ◌&&◌, cond, List, ℕ, ◌+◌, ◌-◌, ◌*◌, length, take, drop}
use Rattle.leaf_node.specs.Page.{count, values_size}
use Rattle.leaf_model.specs.Work.{Waiting, Done, zero_key}
use Rattle.leaf_work.specs.declared.Work.{Work}
use Rattle.leaf_work.specs.declared.Entry.{Entry}
use Rattle.leaf_work.specs.Tests.{every, is_zero, is_set, bit}
use Rattle.leaf_work.specs.Lent.{turn_number, regarded}
use Rattle.leaf_work.specs.Pending.{pending_of}
use Rattle.leaf_work.specs.Verdict.{lent_verdict, digest_verdict}
use Rattle.leaf_work.specs.Sound.{placed}
use Rattle.leaf_work.specs.Digest as outcome
use Rattle.leaf_cut.specs.declared.Gauge.{Gauge}
use Rattle.leaf_give.specs.Giving.{Gives, pending, planned}
use Rattle.leaf_merge.specs.Keeping.{RoomToKeep}

-- the number of a digest by all that is lent
abbrev pub lent_digest_verdict : ℕ → Work → List Entry → List ℕ → List ℕ → List ℕ → List ℕ → ℕ
lent_digest_verdict size w list store page area tickets = digest_verdict size w (pending_of w list store (regarded w page)) area tickets (lent_verdict size w list store page)

-- "B is the body size of all pending records": what is listed, and the base's rest from `low` on
unfoldable pub body_with : Gauge → List ℕ → ℕ → ℕ
body_with listed page low = 34 * (listed.count + (count page - low)) + (listed.bytes + values_size page low (count page))

-- the work record after a digest that keeps records with the gauge `left`: leaf_work's `digest_work` by this gauge and the separator, without the
-- records; `proofs/After.antt` shows that they agree
unfoldable pub digest_work_by : Work → Gauge → List ℕ → Work
digest_work_by w left separator = record {
  turn = cond (is_zero left.count) (turn_number Done) (turn_number Waiting);
  based = w.based;
  mode = w.mode;
  low = 0;
  used = left.count;
  filled = left.bytes;
  count = left.count;
  bytes = left.bytes;
  latest = w.latest;
  cut = w.cut;
  cutoff = w.cutoff;
  over = bit (is_set left.count);
  overriding = cond (is_set left.count) separator zero_key;
  floor = cond (is_set left.count && is_set w.cut) w.cutoff w.floor;
  taken = w.taken;
  last = w.last;
}

-- a work whose lent things earn no refusal and whose leaves have room
pub record Digests (size : ℕ) (w : Work) (list : List Entry) (store page area tickets : List ℕ) : Type 0 where
  pub gives : Gives size w list store page area tickets
  pub in_place : placed w.filled 0 (take w.used list) ≡ true
  pub unused : every is_zero (drop w.filled store) ≡ true
  pub room : RoomToKeep (length list) (length (pending size w list store page)) w.used (length (planned size w list store page).left)

-- what an accepted digest with the outcome o answers and leaves
pub record Leaves (o : outcome.Digested) (reply : outcome.DigestReply) (w' : Work) (list' : List Entry) (store' area' tickets' : List ℕ) : Type 0 where
  pub reply_is : reply ≡ o.reply
  pub work_is : w' ≡ o.work
  pub list_is : list' ≡ o.list
  pub store_is : store' ≡ o.store
  pub area_is : area' ≡ o.area
  pub tickets_are : tickets' ≡ o.tickets
