-- The number of a digest: the lent things, the turn, the room for its pages. Assumes nothing.
use mathlib.Core.Path.{◌≡◌, sym, ap, ◌∙◌}
use mathlib.Core.Bool.{Bool, true, false, not, ◌&&◌}
use mathlib.Core.List.{List}
use Prim.Native.Nat.{ℕ, ◌+◌, ◌-◌, ◌*◌, ◌≤◌}
use native.Mathlib.Omega.{arith}
use lib.Dec.{leb}
use lib.ListN.{length, length-append}
use borrow.Author.Tests.{not-true, not-false}
use Rattle.refusal.specs.Refusal.{out_of_turn, short_area}
use Rattle.leaf_node.specs.Limits.{PageSize, pages_asked}
use Rattle.leaf_node.specs.Record.{body, total}
use Rattle.leaf_node.specs.Page.{count, record_at, records_between, values_size}
use Rattle.leaf_node.proofs.Lengths.{length_run, body_is_pointers_and_values}
use Rattle.leaf_work.specs.declared.Work.{Work}
use Rattle.leaf_work.specs.declared.Entry.{Entry}
use Rattle.leaf_work.specs.Lent.{is_open, regarded}
use Rattle.leaf_work.specs.Pending.{pending_of}
use Rattle.leaf_work.specs.Verdict.{lent_verdict, has_pages, digest_verdict}
use Rattle.leaf_work.proofs.Operations.{Op, records_of_ops, total_append}
use Rattle.leaf_work.proofs.Laid.{pending_is}
use Rattle.leaf_work.proofs.Readiness.{accepted_things_are_ready, ops, laid, low_in}
use Rattle.leaf_base.proofs.Bases.{first_refused}
use Rattle.leaf_cut.specs.declared.Gauge.{Gauge}
use Rattle.leaf_cut.specs.Steps.{Modest}
use Rattle.leaf_digest.specs.Steps.{body_with}

abbrev pub listed_gauge : Work → Gauge
listed_gauge w = record { count = w.count; bytes = w.bytes }

-- ---- all that is pending

pub the_area_is_tested : (size : ℕ) (listed : Gauge) (p : List ℕ) (low n : ℕ) (g : Gauge) (area tickets : ℕ) (r : Bool) → n ≡ count p
    → g.count ≡ listed.count + (n - low) → g.bytes ≡ listed.bytes + values_size p low n
    → r ≡ (leb (pages_asked size (34 * g.count + g.bytes) * size) area && leb (pages_asked size (34 * g.count + g.bytes) * 65) tickets)
    → r ≡ (leb (pages_asked size (body_with listed p low) * size) area && leb (pages_asked size (body_with listed p low) * 65) tickets)
unfolding body_with
the_area_is_tested size listed p low n g area tickets r e gc gb q = rw (q, gc, gb, e)

module _ (size : ℕ) (w : Work) (list : List Entry) (store page : List ℕ) (z : lent_verdict size w list store page ≡ 0) where
  abbrev p : List ℕ
  p = regarded w page

  abbrev os : List Op
  os = ops size w list store page z

  rest_length : length (records_between p w.low (count p)) ≡ count p - w.low
  unfolding records_between
  rest_length = length_run (count p - w.low) w.low (record_at p)

  pub the_pending_records_are_counted : length (pending_of w list store p) ≡ w.count + (count p - w.low)
  the_pending_records_are_counted =
      let l = laid size w list store page z in
      omega (arith, ap length (pending_is w list store p os l), length-append (records_of_ops p os) (records_between p w.low (count p)), rest_length, l.count_is)

  pub the_pending_values_are_summed : total (pending_of w list store p) ≡ w.bytes + values_size p w.low (count p)
  unfolding values_size
  the_pending_values_are_summed =
      let l = laid size w list store page z in
      omega (arith, ap total (pending_is w list store p os l), total_append (records_of_ops p os) (records_between p w.low (count p)), l.bytes_is)

  pub the_pending_body : body (pending_of w list store p) ≡ body_with (listed_gauge w) p w.low
  unfolding body_with
  the_pending_body = omega (arith, body_is_pointers_and_values (pending_of w list store p), the_pending_records_are_counted, the_pending_values_are_summed)

-- ---- the rows of the table

module _ (size : ℕ) (w : Work) (list : List Entry) (store page area tickets : List ℕ) (v : ℕ) (e : v ≡ lent_verdict size w list store page) where
  abbrev number : ℕ
  number = digest_verdict size w (pending_of w list store (regarded w page)) area tickets (lent_verdict size w list store page)

  pub what_is_lent_comes_first : (v ≡ 0 → ⊥) → v ≡ number
  unfolding digest_verdict
  what_is_lent_comes_first h = rw (← e) (sym (first_refused v _ h))

  module _ (z : v ≡ 0) (p : List ℕ) (q : p ≡ regarded w page) where
    pub only_an_open_work_is_digested : (t : Bool) → t ≡ is_open w → not t ≡ true → out_of_turn ≡ number
    unfolding digest_verdict
    only_an_open_work_is_digested t f h = rw (← e, z, ← f, not-true t h)

    pub the_rest_is_there : (n : ℕ) → n ≡ count p → w.low ≤ n
    the_rest_is_there n f = rw (f, q) (low_in size w list store page (sym e ∙ z))

    pub listed_gauge_is_modest : PageSize size → Modest (listed_gauge w)
    listed_gauge_is_modest s =
        let r = accepted_things_are_ready size w list store page (sym e ∙ z) s in
        record { few = omega (arith, r.few); short = omega (arith, r.store_room, r.store_short) }

    module _ (o : Bool) (f : o ≡ is_open w) (i : not o ≡ false) (t : Bool)
        (r : t ≡ (leb (pages_asked size (body_with (listed_gauge w) p w.low) * size) (length area) && leb (pages_asked size (body_with (listed_gauge w) p w.low) * 65) (length tickets))) where
      pages : has_pages size (pending_of w list store (regarded w page)) area tickets ≡ t
      pages = rw (the_pending_body size w list store page (sym e ∙ z), ← q) (sym r)

      pub a_short_area_has_number_17 : not t ≡ true → short_area ≡ number
      unfolding digest_verdict
      a_short_area_has_number_17 h = rw (pages, ← e, z, ← f, not-false o i, not-true t h)

      pub an_area_with_room_passes : not t ≡ false → 0 ≡ number
      unfolding digest_verdict
      an_area_with_room_passes h = rw (pages, ← e, z, ← f, not-false o i, not-false t h)
