-- One change: its parts, and what its ingest leaves. Assumes nothing.
use mathlib.Core.Path.{◌≡◌, refl, sym, ap, subst, ◌∙◌}
use mathlib.Core.Bool.{Bool, true, false, cond}
use mathlib.Core.Option.{Option}
use mathlib.Core.List.{List}
use Prim.Native.Nat.{ℕ, ◌+◌, ◌-◌}
use native.Mathlib.Omega.{arith}
use lib.ListN.{take, drop}
use Rattle.std.specs.Prelude as std
use Rattle.refusal.specs.declared.Refusal.{Refusal}
use Rattle.refusal.specs.Numbers.{number, number_of}
use Rattle.leaf_node.specs.declared.Cell.{Cell}
use Rattle.leaf_model.specs.Work as model
use Rattle.leaf_work.specs.declared.Work.{Work}
use Rattle.leaf_work.specs.declared.Entry.{Entry}
use Rattle.leaf_work.specs.Outcome.{ingest_number, Ingested, ingest_on}
use Rattle.leaf_ingest.specs.Reply.{reply_of}
use Rattle.leaf_take.specs.Reply.{Leaves}
use Rattle.row_changes.specs.Packed.{key_of, is_put, length_of, value_length, change_of}
use Rattle.row_ingest.specs.declared.Taking.{Taking}
use Rattle.row_ingest.specs.Taking.{change_by, ingested_by, ChangeTaken}

-- ---- the ingest

numbers : (reply : std.Result (std.Option Cell) Refusal) → number_of reply ≡ ingest_number (reply_of reply)
numbers (std.Ok std.None) = refl
numbers (std.Ok (std.Some cell)) = refl
numbers (std.Err r) = refl

the_change : (c values : List ℕ) (v to : ℕ) → to ≡ v + value_length c → change_by c (take (to - v) (drop v values)) ≡ change_of c (drop v values)
unfolding value_length
the_change c values v to e = go (is_put c) refl
  where
    go : (b : Bool) → is_put c ≡ b → change_by c (take (to - v) (drop v values)) ≡ change_of c (drop v values)
    go true h =
        let n : to - v ≡ length_of c = omega (arith, e ∙ ap (λ (b : Bool). v + cond b (length_of c) 0) h) in
        rw (change_by, change_of, h, n)
    go false h = rw (change_by, change_of, h)

module _ (t : Taking) (list : List Entry) (store page c values own : List ℕ) (change : Option model.Change) (to : ℕ) (o : own ≡ key_of c) (l : to ≡ t.value + value_length c)
    (d : change ≡ change_by c (take (to - t.value) (drop t.value values))) where
  made_is : ingest_on 4096 t.work list store page own change 0 ≡ ingested_by t list store page c values
  made_is = rw (o, d, the_change c values t.value to l)

  module _ (reply : std.Result (std.Option Cell) Refusal) (work' : Work) (list' : List Entry) (store' : List ℕ) (s : Leaves (ingest_on 4096 t.work list store page own change 0) reply work' list' store') where
    g : Leaves (ingested_by t list store page c values) reply work' list' store'
    g = subst (λ (x : Ingested). Leaves x reply work' list' store') made_is s

    pub a_change_is_taken : number_of reply ≡ 0 → ChangeTaken t list store page c values (std.Ok (record { work = work'; value = to })) list' store'
    a_change_is_taken z = record { number_is = sym z ∙ numbers reply ∙ ap ingest_number g.reply_is; taken_is = rw (g.work_is, l); list_is = g.list_is; store_is = g.store_is }

    pub a_change_is_refused : (r : Refusal) → number r ≡ number_of reply → ChangeTaken t list store page c values (std.Err r) list' store'
    a_change_is_refused r e = record { number_is = e ∙ numbers reply ∙ ap ingest_number g.reply_is; taken_is = tt; list_is = g.list_is; store_is = g.store_is }
