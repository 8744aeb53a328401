-- An ingest: the entries that it lists, what it requires, and that it leaves the outcome of the definitions. Assumes nothing.
use mathlib.Core.Path.{◌≡◌, refl, sym, ap, ◌∙◌}
use mathlib.Core.Bool.{true, false}
use mathlib.Core.Option.{Option, none, some}
use mathlib.Core.List.{List}
use Prim.Native.Nat.{ℕ, ◌+◌, ◌-◌, ◌≤◌, ◌<◌}
use native.Mathlib.Omega.{arith}
use lib.Dec.{eqb}
use lib.ListN.{length, set, length-append}
use borrow.Author.Tests.{eq-eqb, ne_eqb, lt-ltb, le-ltb}
use Rattle.std.specs.Prelude as std
use Rattle.refusal.specs.declared.Refusal.{Refusal}
use Rattle.refusal.specs.Numbers.{number}
use Rattle.refusal.proofs.Refused.{refused}
use Rattle.leaf_node.specs.declared.Cell.{Cell}
use Rattle.leaf_node.specs.Build.{put}
use Rattle.leaf_model.specs.Work.{Change}
use Rattle.leaf_work.specs.declared.Work.{Work}
use Rattle.leaf_work.specs.declared.Entry.{Entry}
use Rattle.leaf_work.specs.Tests.{is_set, bit}
use Rattle.leaf_work.specs.Lent.{insert_at, chunk_of, regarded}
use Rattle.leaf_work.specs.TakingUp.{value_of, chunk_entries, insert_entries, entries_with}
use Rattle.leaf_work.specs.Verdict.{lent_verdict, ingest_verdict}
use Rattle.leaf_work.specs.Outcome as outcome
use Rattle.leaf_base.proofs.Bases.{first_refused}
use Rattle.leaf_builder.proofs.Putting.{put_none, put_put}
use Rattle.leaf_ingest.specs.declared.Kept.{Kept}
use Rattle.leaf_ingest.specs.Reply.{report_of}
use Rattle.leaf_ingest.specs.Steps.{Taken, added_by, ingest_work_by}
use Rattle.leaf_ingest.proofs.Numbers.{added_records}
use Rattle.leaf_ingest.proofs.Splicing.{put_one}
use Rattle.leaf_ingest.proofs.Ingests.{entries_are, report_is, work_is}
use Rattle.leaf_take.specs.Reply.{Leaves}
use Rattle.leaf_take.specs.Listing.{PutAt, HasRoom}

-- ---- the entries

module _ (list : List Entry) (at low stop sum : ℕ) where
  pub no_chunk_is_put : stop ≤ low → PutAt list at (chunk_entries low stop sum) at list
  no_chunk_is_put h = rw (chunk_entries, le-ltb low stop h) (record { next_is = omega arith; list_is = sym (put_none list at) })

  pub a_chunk_is_put : low < stop → at + (stop - low) ≤ length list → (e : Entry) → e ≡ chunk_of low stop sum → PutAt list at (chunk_entries low stop sum) (at + 1) (set list at e)
  a_chunk_is_put h r e q =
      rw (chunk_entries, lt-ltb low stop h, q) (record { next_is = refl; list_is = put_one list at (chunk_of low stop sum) (omega arith) })

module _ (list : List Entry) (at from : ℕ) (k : List ℕ) (c : Option Change) where
  pub no_insert_is_put : c ≡ none → PutAt list at (insert_entries from k c) at list
  no_insert_is_put e = rw e (record { next_is = omega arith; list_is = sym (put_none list at) })

  pub an_insert_is_put : (d : Change) → c ≡ some d → at + added_by c ≤ length list → (e : Entry) (f : ℕ) → f ≡ bit d.flag → e ≡ insert_at from (from + length d.value) k f
      → PutAt list at (insert_entries from k c) (at + 1) (set list at e)
  an_insert_is_put d q r e f g h =
      let l : at < length list = let s : at + added_by (some d) ≤ length list = rw q at r in omega arith in
      rw (q, h, g) (record { next_is = refl; list_is = put_one list at (insert_at from (from + length d.value) k (bit d.flag)) l })

pub both_are_put : (list : List Entry) (w : Work) (k : List ℕ) (z : Kept) (c : Option Change) (at : ℕ) (mid : List Entry) → HasRoom w z c (length list)
    → PutAt list w.used (chunk_entries w.low z.stop z.taken) at mid → at ≤ w.used + (z.stop - w.low) → (n : ℕ) (after : List Entry)
    → PutAt mid at (insert_entries w.filled k c) n after → PutAt list w.used (entries_with w k z.stop z.taken c) n after
both_are_put list w k z c at mid r e f n after h =
    let chunk = chunk_entries w.low z.stop z.taken in
    let insert = insert_entries w.filled k c in
    record {
      next_is = h.next_is ∙ omega (arith, e.next_is, length-append chunk insert);
      list_is = h.list_is ∙ rw (e.list_is, e.next_is) (put_put list w.used chunk (w.used + length chunk) insert refl (omega (arith, e.next_is, f, r.list_room)));
    }

-- ---- an ingest whose lent things earn no refusal

module _ (size : ℕ) (w : Work) (list : List Entry) (store page k : List ℕ) (c : Option Change) where
  module _ (r : Refusal) (e : number r ≡ ingest_verdict size w list store page k c 0) where
    refused_outcome : outcome.ingest_on size w list store page k c 0 ≡ record { reply = outcome.IngestRefused (number r); work = w; list = list; store = store }
    unfolding outcome.ingest_on
    refused_outcome =
        let f : eqb (ingest_verdict size w list store page k c 0) 0 ≡ false = rw (← e) (ne_eqb (number r) 0 (refused r)) in
        rw (f, outcome.ingest_on, e)

    pub a_refused_ingest_leaves_all : Leaves (outcome.ingest_on size w list store page k c 0) (std.Err r) w list store
    a_refused_ingest_leaves_all = rw refused_outcome (record { reply_is = refl; work_is = refl; list_is = refl; store_is = refl })

  module _ (e : 0 ≡ ingest_verdict size w list store page k c 0) (kept : Kept) (g : Taken w page k kept) where
    done : outcome.ingest_on size w list store page k c 0 ≡ outcome.ingest_done size w list store page k c
    unfolding outcome.ingest_on
    done = let f : eqb (ingest_verdict size w list store page k c 0) 0 ≡ true = eq-eqb _ 0 (sym e) in rw (f, outcome.ingest_on)

    pub an_accepted_ingest_leaves_its_outcome : (d : std.Option Cell) → report_of d ≡ outcome.report_by (is_set w.mode) w.low page kept.stop kept.dropped
        → (used a : ℕ) (x : List ℕ) (list' : List Entry) (store' : List ℕ) (w' : Work) → PutAt list w.used (entries_with w k kept.stop kept.taken c) used list'
        → x ≡ value_of c → store' ≡ put store w.filled x → a ≡ added_by c → w' ≡ ingest_work_by w k kept used a (length x)
        → Leaves (outcome.ingest_on size w list store page k c 0) (std.Ok d) w' list' store'
    unfolding put
    an_accepted_ingest_leaves_its_outcome d u used a x list' store' w' p f s b h =
        rw done (record {
          reply_is = u ∙ report_is w page k kept g size list store c;
          work_is = h ∙ rw (p.next_is, b, f, added_records c k) (work_is w page k kept g size list store c);
          list_is = p.list_is ∙ ap (λ (es : List Entry). put list w.used es) (entries_are w page k kept g c);
          store_is = rw f at s;
        })

-- ---- the call: what is lent is refused

module _ (size : ℕ) (w : Work) (list : List Entry) (store page k : List ℕ) (c : Option Change) where
  pub refused_things_stay : (r : Refusal) → number r ≡ lent_verdict size w list store page → Leaves (outcome.ingest_of size w list store page k c) (std.Err r) w list store
  unfolding outcome.ingest_on ingest_verdict
  refused_things_stay r e =
      let n : ingest_verdict size w list store (regarded w page) k c (lent_verdict size w list store page) ≡ number r = rw (← e) (first_refused (number r) _ (refused r)) in
      let f : eqb (ingest_verdict size w list store (regarded w page) k c (lent_verdict size w list store page)) 0 ≡ false = rw n (ne_eqb (number r) 0 (refused r)) in
      rw (outcome.ingest_on, f, n) (record { reply_is = refl; work_is = refl; list_is = refl; store_is = refl })
