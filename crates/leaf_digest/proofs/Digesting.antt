-- A digest of what earns no refusal: what its parts require, and that they leave the outcome. Assumes nothing.
use mathlib.Core.Path.{◌≡◌, refl, sym, ap, ◌∙◌}
use mathlib.Core.List.{List, [], ◌∷◌, ◌++◌}
use Prim.Native.Nat.{ℕ, ◌-◌}
use native.Mathlib.Omega.{arith}
use lib.ListN.{length, replicate}
use Rattle.bit_ops.specs.Steps.{zeros}
use Rattle.leaf_node.specs.Record.{Record, values, total}
use Rattle.leaf_model.specs.Cut.{Cut}
use Rattle.leaf_work.specs.declared.Work.{Work}
use Rattle.leaf_work.specs.declared.Entry.{Entry}
use Rattle.leaf_work.specs.Lent.{blank}
use Rattle.leaf_work.specs.Digest as outcome
use Rattle.leaf_give.specs.declared.Progress.{Progress}
use Rattle.leaf_give.specs.Giving.{planned, GivenOut}
use Rattle.leaf_merge.specs.Keeping.{KeptAs}
use Rattle.leaf_digest.specs.Steps.{digest_work_by, Digests, Leaves}
use Rattle.leaf_digest.proofs.After.{the_work_after_a_digest}

none_left : (rs : List Record) (n : ℕ) → n ≡ length rs → n ≡ 0 → rs ≡ []
none_left [] n e z = refl
none_left (r ∷ rs) n e z = absurd (omega arith)

-- the reply goes by whether records are kept
reply_done : (rs : List Record) (n : ℕ) (c : List ℕ) → rs ≡ [] → outcome.digest_reply_by rs n c ≡ outcome.Finished n
reply_done rs n c e = ap (λ (x : List Record). outcome.digest_reply_by x n c) e

reply_merge : (rs : List Record) (n : ℕ) (c : List ℕ) (m : ℕ) → m ≡ length rs → (m ≡ 0 → ⊥) → outcome.digest_reply_by rs n c ≡ outcome.Merge n c
reply_merge [] n c m e h = absurd (h e)
reply_merge (r ∷ rs) n c m e h = refl

module _ (size : ℕ) (w : Work) (list : List Entry) (store page area tickets : List ℕ) (d : Digests size w list store page area tickets) where
  abbrev P : Cut
  P = planned size w list store page

  abbrev done : outcome.Digested
  done = outcome.digest_done size w list store area tickets P

  module _ (p : Progress) (area' tickets' : List ℕ) (g : GivenOut size w list store page area tickets p area' tickets') where
    module _ (list' : List Entry) (store' : List ℕ) (k : KeptAs w list store page p.at list' store') where
      list_is : list' ≡ done.list
      list_is = k.list_is ∙ ap (λ (x : List Record). outcome.inserts_of 0 x ++ replicate (length list - length x) blank) g.left_is

      store_is : store' ≡ done.store
      store_is = k.store_is ∙ ap (λ (x : List Record). values x ++ zeros (length store - total x)) g.left_is

      module _ (next : Work) (e : next ≡ digest_work_by w p.left p.separator) where
        work_is : next ≡ done.work
        work_is = e ∙ the_work_after_a_digest w P.leaves P.left p.left p.separator g.count_is g.bytes_is g.separator_is

        pub nothing_left_is_done : p.left.count ≡ 0
            → Leaves done (outcome.Finished p.leaves) next list' store' area' tickets'
        nothing_left_is_done z =
            let q : done.reply ≡ outcome.Finished (length P.leaves) = reply_done P.left (length P.leaves) w.cutoff (none_left P.left p.left.count g.count_is z) in
            record {
              reply_is = ap outcome.Finished g.leaves_are ∙ sym q;
              work_is = work_is;
              list_is = list_is;
              store_is = store_is;
              area_is = g.area_is;
              tickets_are = g.tickets_are;
            }

        pub what_is_left_waits_for_a_merge : (p.left.count ≡ 0 → ⊥)
            → Leaves done (outcome.Merge p.leaves w.cutoff) next list' store' area' tickets'
        what_is_left_waits_for_a_merge h =
            let q : done.reply ≡ outcome.Merge (length P.leaves) w.cutoff = reply_merge P.left (length P.leaves) w.cutoff p.left.count g.count_is h in
            record {
              reply_is = ap (λ (n : ℕ). outcome.Merge n w.cutoff) g.leaves_are ∙ sym q;
              work_is = work_is;
              list_is = list_is;
              store_is = store_is;
              area_is = g.area_is;
              tickets_are = g.tickets_are;
            }
