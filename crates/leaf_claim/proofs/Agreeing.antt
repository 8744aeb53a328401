-- What is told of a work agrees with its work record after every accepted call: so whoever believes the calls' answers needn't believe the record.
-- Assumes nothing.
use mathlib.Core.Path.{◌≡◌, refl, sym, ap, ◌∙◌}
use mathlib.Core.Bool.{Bool, true, false, ◌&&◌, true≢false, not}
use mathlib.Core.Option.{Option, none, some}
use mathlib.Core.List.{List, [], ◌∷◌, ◌++◌, map}
use Prim.Native.Nat.{ℕ}
use lib.ListN.{length}
use Rattle.leaf_node.specs.Record.{Record}
use Rattle.leaf_node.specs.Ticket.{read_tickets}
use Rattle.leaf_model.specs.Basics.{joined, nonempty}
use Rattle.leaf_model.specs.Cut.{Cut}
use Rattle.leaf_model.specs.Work.{Turn, Open, Waiting, Done, or_else, leaf_cutoff, next_separator, with_separators, separator_after, finish, finished}
use Rattle.leaf_model.specs.Work as model
use Rattle.leaf_work.specs.declared.Work.{Work}
use Rattle.leaf_work.specs.Tests.{is_set, key_if}
use Rattle.leaf_work.specs.Lent.{turn_number, is_open, is_waiting, cutoff_of, override_of, last_of, separator_of, reads_base}
use Rattle.leaf_work.specs.Verdict.{Opening, with_base_lem, with_none}
use Rattle.leaf_work.specs.Outcome.{open_work, next_base_work, remove_work}
use Rattle.leaf_work.specs.Digest.{ticket_of, digest_reply_by, digest_work}
use Rattle.leaf_work.proofs.Tests.{kept_key}
use Rattle.leaf_work.proofs.Laid.{turn_of}
use Rattle.leaf_claim.specs.Told.{Told, reads_page, override_told, told_opening, told_digest, told_next_base, told_removal}
use Rattle.leaf_claim.specs.Claim.{has_cutoff}

-- what the work record says of itself
abbrev pub told_of : Work → Told
told_of w = record {
  turn = turn_of w.turn;
  based = is_set w.based;
  separator = w.latest;
  cutoff = cutoff_of w;
  override = override_of w;
  floor = w.floor;
  last = last_of w;
}

-- ---- the tests of the table

module _ (w : Work) (known : w.turn ≡ turn_number (turn_of w.turn)) where
  pub open_as_told : model.is_open (turn_of w.turn) ≡ is_open w
  open_as_told = go (turn_of w.turn) known
    where
      go : (t : Turn) → w.turn ≡ turn_number t → model.is_open t ≡ is_open w
      go Open e = rw e
      go Waiting e = rw e
      go Done e = rw e

  pub waiting_as_told : model.is_waiting (turn_of w.turn) ≡ is_waiting w
  waiting_as_told = go (turn_of w.turn) known
    where
      go : (t : Turn) → w.turn ≡ turn_number t → model.is_waiting t ≡ is_waiting w
      go Open e = rw e
      go Waiting e = rw e
      go Done e = rw e

  pub closed_as_told : model.awaits_base (turn_of w.turn) ≡ not (is_open w)
  closed_as_told = go (turn_of w.turn) known
    where
      go : (t : Turn) → w.turn ≡ turn_number t → model.awaits_base t ≡ not (is_open w)
      go Open e = rw e
      go Waiting e = rw e
      go Done e = rw e

  pub page_read_as_told : reads_page (told_of w) ≡ reads_base w
  page_read_as_told = ap (λ (b : Bool). b && is_set w.based) open_as_told

pub cutoff_as_told : (b : Bool) (c : List ℕ) → has_cutoff (key_if b c) ≡ b
cutoff_as_told true c = refl
cutoff_as_told false c = refl

-- ---- opening, next base, cutoff removal

pub opening_is_told : (every : Bool) (x : Opening) → told_opening x ≡ told_of (open_work every x)
opening_is_told every (with_base_lem page separator cut cutoff) = λ j. record {
  turn = Open;
  based = true;
  separator = separator;
  cutoff = sym (kept_key cut cutoff) j;
  override = none;
  floor = separator;
  last = none;
}
opening_is_told every (with_none cut) = refl

pub next_base_is_told : (w : Work) (separator : List ℕ) (cut : Bool) (cutoff : List ℕ)
    → told_next_base separator (key_if cut cutoff) (told_of w) ≡ told_of (next_base_work w separator cut cutoff)
next_base_is_told w separator cut cutoff = λ j. record {
  turn = Open;
  based = true;
  separator = separator;
  cutoff = sym (kept_key cut cutoff) j;
  override = override_of w;
  floor = separator;
  last = last_of w;
}

pub removal_is_told : (w : Work) → told_removal (told_of w) ≡ told_of (remove_work w)
removal_is_told w = refl

-- ---- digest

-- records are kept only where there is a cutoff
pub kept_for_a_cutoff : (size : ℕ) (b : Bool) (c : List ℕ) (p : Cut) (r : Record) (rs : List Record) → (finished size (key_if b c) p).left ≡ r ∷ rs → b ≡ true
kept_for_a_cutoff size true c p r rs e = refl
kept_for_a_cutoff size false c p r rs e = closed p.leaves p.left e
  where
    closed : (leaves : List (List Record)) (left : List Record) → (finish true leaves left).left ≡ r ∷ rs → false ≡ true
    closed leaves [] e = ap nonempty e
    closed leaves (x ∷ xs) e = ap nonempty e

behind_some : (xs : List Record) (r : Record) (rs : List Record) → nonempty (xs ++ (r ∷ rs)) ≡ true
behind_some [] r rs = refl
behind_some (x ∷ xs) r rs = refl

cutoff_is_next : (s : List ℕ) (c : Option (List ℕ)) (l after : List Record) → nonempty after ≡ true → leaf_cutoff l after c ≡ some (next_separator s l after)
cutoff_is_next s c l [] e = absurd (true≢false (sym e))
cutoff_is_next s c l (n ∷ ns) e = refl

-- "that is the override for those records": the last ticket's cutoff is the separator of what is kept behind the leaves
pub last_cutoff_is_the_override : (s : List ℕ) (c : Option (List ℕ)) (m : Bool) (ls : List (List Record)) (r : Record) (rs : List Record)
    → override_told (some s) (map ticket_of (with_separators s c m ls (r ∷ rs))) ≡ some (separator_after s ls (r ∷ rs))
last_cutoff_is_the_override s c m [] r rs = refl
last_cutoff_is_the_override s c m (l ∷ ls) r rs =
    let after : List Record = joined ls ++ (r ∷ rs) in
    let s' : List ℕ = next_separator s l after in
    ap (λ (o : Option (List ℕ)). override_told o (map ticket_of (with_separators s' c m ls (r ∷ rs)))) (cutoff_is_next s c l after (behind_some (joined ls) r rs))
    ∙ last_cutoff_is_the_override s' c m ls r rs

-- `tickets` are those of the leaves, with what lies behind them
pub digest_is_told : (w : Work) (leaves : List (List Record)) (left : List Record) (tickets : List ℕ)
    → ((r : Record) (rs : List Record) → left ≡ r ∷ rs → is_set w.cut ≡ true)
    → read_tickets (length leaves) tickets ≡ map ticket_of (with_separators (separator_of w) (cutoff_of w) (nonempty left) leaves left)
    → told_digest (digest_reply_by left (length leaves) w.cutoff) tickets (told_of w) ≡ told_of (digest_work w (record { leaves = leaves; left = left }))
digest_is_told w leaves [] tickets f e = refl
digest_is_told w leaves (r ∷ rs) tickets f e =
    let o : override_told (some (separator_of w)) (read_tickets (length leaves) tickets) ≡ some (separator_after (separator_of w) leaves (r ∷ rs)) =
    ap (override_told (some (separator_of w))) e ∙ last_cutoff_is_the_override (separator_of w) (cutoff_of w) true leaves r rs in
    let c : w.cutoff ≡ or_else (key_if (is_set w.cut) w.cutoff) w.floor = rw (f r rs refl) in
    λ j. record {
      turn = Waiting;
      based = is_set w.based;
      separator = w.latest;
      cutoff = cutoff_of w;
      override = o j;
      floor = c j;
      last = last_of w;
    }
