-- The twin call answers the pending records, whatever page is lent where the work ignores it. Assumes nothing.
use mathlib.Core.Path.{◌≡◌, refl, sym, ap, ◌∙◌}
use mathlib.Core.Bool.{Bool, true, false, cond}
use mathlib.Core.List.{List, [], ◌∷◌, append-nil, map}
use Prim.Native.Nat.{ℕ, suc, ◌+◌, ◌-◌, ◌≤◌}
use native.Mathlib.Omega.{arith}
use native.Mathlib.Nat.{add-zero, add-suc, suc-add}
use lib.ListN.{length, take, drop}
use Rattle.leaf_node.specs.Record.{Record}
use Rattle.leaf_node.specs.Page.{count, run}
use Rattle.leaf_node.specs.Fits.{All, nil, cons}
use Rattle.leaf_work.specs.declared.Work.{Work}
use Rattle.leaf_work.specs.Tests.{is_set, bit}
use Rattle.leaf_work.specs.Lent.{reads_base, regarded}
use Rattle.leaf_work.specs.Pending.{Place, held, in_base, chunk_places, entry_places, places_of, listed_places, rest_places, pending_places, pending_of}
use Rattle.leaf_work.specs.Outcome.{TwinReply, nth_place, twin_on, twin_of}
use Rattle.leaf_work.proofs.Operations.{Op, Put, Keep, entries_of, Within}
use Rattle.leaf_work.proofs.Laid.{Laid, an_ignored_page_has_no_records, used_entries}
use Rattle.leaf_claim.specs.Sequence.{State, lent, Answers, stop, more}
use Rattle.leaf_claim.proofs.Reached.{Reached, lent_is, regarded_lent, reached_state_earns_no_refusal}

answers : (f : ℕ → TwinReply) (store page : List ℕ) (i : ℕ) (xs : List Place) → ((j : ℕ) → f (i + j) ≡ nth_place j xs) → Answers f store page i (map (held store page) xs)
answers f store page i [] h = stop (ap f (sym (add-zero i)) ∙ h 0)
answers f store page i (x ∷ xs) h =
    more (ap f (sym (add-zero i)) ∙ h 0) (answers f store page (suc i) xs (λ j. ap f (suc-add i j ∙ sym (add-suc i j)) ∙ h (suc j)))

twin_on_lem : (v : ℕ) (xs : List Place) (i : ℕ) → v ≡ 0 → twin_on v xs i ≡ nth_place i xs
unfolding twin_on
twin_on_lem v xs i e = rw e

-- inserts lie in the store: the page isn't read
inserts_held : (store p a b : List ℕ) {low : ℕ} (at : ℕ) {os : List Op} → All (Within low) os → low ≤ 0
    → map (held store a) (places_of p (entries_of p at os)) ≡ map (held store b) (places_of p (entries_of p at os))
unfolding entry_places held
inserts_held store p a b at nil l = refl
inserts_held store p a b at (cons {x = Put r} h hs) l =
    ap {B = List Record} (λ z. record { key = r.key; value = take (at + length r.value - at) (drop at store); flag = is_set (bit r.flag) } ∷ z)
    (inserts_held store p a b (at + length r.value) hs l)
inserts_held store p a b at (cons {x = Keep f t} h hs) l = absurd (omega (arith, h.0, h.1))

rest_unread : (w : Work) → w.low ≤ 0 → rest_places w [] ≡ []
unfolding chunk_places run
rest_unread w h = let z : count [] - w.low ≡ 0 = omega (arith, an_ignored_page_has_no_records) in ap (λ (n : ℕ). run n w.low (in_base [])) z

module _ (size : ℕ) (s : State) (h : Reached size s) where
  abbrev w : Work
  w = s.work

  held_same : (b : Bool) (page any : List ℕ) (ops : List Op) → Laid w s.list s.store (cond b page []) ops
      → map (held s.store (cond b page any)) (pending_places w s.list (cond b page [])) ≡ map (held s.store (cond b page [])) (pending_places w s.list (cond b page []))
  held_same true page any ops l = refl
  held_same false page any ops l =
      let n : w.low ≤ 0 = omega (arith, l.low_in, an_ignored_page_has_no_records) in
      rw (rest_unread w n, append-nil (listed_places w s.list []), used_entries w s.list s.store [] ops l) (inserts_held s.store [] any [] 0 l.chunks n)

  pub twins_answer_the_pending_records : (any : List ℕ)
      → Answers (twin_of size w s.list s.store (lent s any)) s.store (lent s any) 0 (pending_of w s.list s.store (regarded w s.page))
  twins_answer_the_pending_records any =
      let e : map (held s.store (lent s any)) (pending_places w s.list (regarded w s.page)) ≡ pending_of w s.list s.store (regarded w s.page) =
      rw (lent_is size s h any) (held_same (reads_base w) s.page any h.canonical.ops h.canonical.laid) in
      rw (← e)
      (answers (twin_of size w s.list s.store (lent s any)) s.store (lent s any) 0 (pending_places w s.list (regarded w s.page))
      (λ j. twin_at j))
    where
      twin_at : (j : ℕ) → twin_of size w s.list s.store (lent s any) (0 + j) ≡ nth_place j (pending_places w s.list (regarded w s.page))
      twin_at j =
          let z : 0 + j ≡ j = omega arith in
          rw (z, regarded_lent size s h any) (twin_on_lem _ _ j (reached_state_earns_no_refusal size s h any))
