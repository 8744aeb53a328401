-- The search for a key's place splits the base's rest as the model does. Assumes nothing.
use mathlib.Core.Path.{◌≡◌, refl, sym, ap}
use mathlib.Core.Bool.{Bool, true, false, ◌&&◌}
use mathlib.Core.List.{List, ◌∷◌}
use Prim.Native.Nat.{ℕ, zero, suc, ◌+◌, ◌-◌, ◌≤◌}
use native.Mathlib.Omega.{arith}
use native.Mathlib.Nat.{sub_self}
use lib.Dec.{ltb, eqb}
use borrow.Author.Tests.{lt-ltb, le-ltb, eqb-true, eqb-false, eq-eqb, ne_eqb}
use Rattle.bit_ops.specs.Key.{num, lt_key, eq_key}
use Rattle.leaf_node.specs.Record.{Record}
use Rattle.leaf_node.specs.Page.{count, key_at, record_at, run, records_between}
use Rattle.leaf_node.specs.Search.{place_from}
use Rattle.leaf_node.proofs.Searches.{index_of_the_search, hit_of_the_search}
use Rattle.leaf_model.specs.Work.{records_below, records_above}
use Rattle.leaf_work.specs.declared.Work.{Work}
use Rattle.leaf_work.specs.Tests.{bit}
use Rattle.leaf_work.specs.TakingUp.{stop, drops, low_after, taken_up, rest_after}

pub equal_either_way : (a b : List ℕ) → eq_key a b ≡ eq_key b a
unfolding eq_key
equal_either_way a b = go (eqb (num b) (num a)) refl
  where
    go : (t : Bool) → eqb (num b) (num a) ≡ t → eqb (num a) (num b) ≡ eqb (num b) (num a)
    go true e = rw e (eq-eqb (num a) (num b) (sym (eqb-true _ _ e)))
    go false e = rw e (ne_eqb (num a) (num b) (λ q. eqb-false _ _ e (sym q)))

-- record i is there and has the key k
abbrev pub matches : List ℕ → List ℕ → ℕ → Bool
matches k p i = ltb i (count p) && eq_key (key_at p i) k

record Sought (k p : List ℕ) (i n s : ℕ) : Type 0 where
  from : i ≤ s
  upto : s + bit (matches k p s) ≤ i + n
  below : run (s - i) i (record_at p) ≡ records_below k (run n i (record_at p))
  above : run (count p - (s + bit (matches k p s))) (s + bit (matches k p s)) (record_at p) ≡ records_above k (run n i (record_at p))

run_to : (p : List ℕ) (m n i j : ℕ) → m ≡ n → i ≡ j → run m i (record_at p) ≡ run n j (record_at p)
run_to p m n i j e f = rw (e, f)

module _ (k p : List ℕ) where
  sought_none : (i : ℕ) → i + 0 ≡ count p → Sought k p i 0 i
  unfolding run
  sought_none i e =
      let m : matches k p i ≡ false = rw (le-ltb i (count p) (omega arith)) in
      record {
        from = omega arith;
        upto = rw m (omega arith);
        below = run_to p (i - i) 0 i i (omega arith) refl;
        above = rw m (run_to p (count p - (i + 0)) 0 (i + 0) i (omega arith) (omega arith));
      }

  module _ (i n : ℕ) (e : i + suc n ≡ count p) where
    sought_below : (s : ℕ) → lt_key (key_at p i) k ≡ true → Sought k p (suc i) n s → Sought k p i (suc n) s
    unfolding run record_at
    sought_below s b h =
        let q : s - i ≡ suc (s - suc i) = omega (arith, h.from) in
        record {
          from = omega (arith, h.from);
          upto = omega (arith, h.upto);
          below = rw (q, b, records_below) (ap {B = List Record} (λ l. record_at p i ∷ l) h.below);
          above = rw (b, records_above) h.above;
        }

    sought_here : lt_key (key_at p i) k ≡ false → Sought k p i (suc n) i
    unfolding run record_at
    sought_here b = go (eq_key k (key_at p i)) refl
      where
        there : ltb i (count p) ≡ true
        there = lt-ltb i (count p) (omega arith)

        go : (d : Bool) → eq_key k (key_at p i) ≡ d → Sought k p i (suc n) i
        go false f =
            let m : matches k p i ≡ false = rw (there, equal_either_way (key_at p i) k, f) in
            record {
              from = omega arith;
              upto = rw m (omega arith);
              below = rw (sub_self i, b, records_below);
              above = rw (m, b, f, records_above) (run_to p (count p - (i + 0)) (suc n) (i + 0) i (omega arith) (omega arith));
            }
        go true f =
            let m : matches k p i ≡ true = rw (there, equal_either_way (key_at p i) k, f) in
            record {
              from = omega arith;
              upto = rw m (omega arith);
              below = rw (sub_self i, b, records_below);
              above = rw (m, b, f, records_above) (run_to p (count p - (i + 1)) n (i + 1) (suc i) (omega arith) (omega arith));
            }

  sought : (i n : ℕ) → i + n ≡ count p → Sought k p i n (place_from p n i k)
  unfolding place_from
  sought i zero e = sought_none i e
  sought i (suc n) e = go (sought (suc i) n (omega arith)) (lt_key (key_at p i) k) refl
    where
      go : Sought k p (suc i) n (place_from p n (suc i) k) → (b : Bool) → lt_key (key_at p i) k ≡ b → Sought k p i (suc n) (place_from p (suc n) i k)
      go h true f = rw (f, place_from) (sought_below i n e (place_from p n (suc i) k) f h)
      go h false f = rw (f, place_from) (sought_here i n e f)

-- ---- `stop` and `drops`, read off the search

module _ (w : Work) (p k : List ℕ) where
  abbrev place : ℕ
  place = place_from p (count p - w.low) w.low k

  pub stop_is : stop w p k ≡ place
  unfolding stop
  stop_is = index_of_the_search p w.low k

  pub drops_is : drops w p k ≡ matches k p place
  unfolding drops
  drops_is = hit_of_the_search p w.low k

-- what an ingest takes up and leaves of the base's rest is what the model does
pub record Split (w : Work) (p k : List ℕ) : Type 0 where
  pub from : w.low ≤ stop w p k
  pub to : stop w p k ≤ low_after w p k
  pub upto : low_after w p k ≤ count p
  pub below : taken_up w p k ≡ records_below k (records_between p w.low (count p))
  pub above : rest_after w p k ≡ records_above k (records_between p w.low (count p))

pub the_search_splits_the_rest : (w : Work) (p k : List ℕ) → w.low ≤ count p → Split w p k
unfolding records_between
the_search_splits_the_rest w p k h =
    let s = sought k p w.low (count p - w.low) (omega arith) in
    let a = stop_is w p k in
    let b = drops_is w p k in
    record {
      from = rw a s.from;
      to = omega arith;
      upto = rw (a, b) (omega (arith, s.upto));
      below = rw a s.below;
      above = rw (a, b) s.above;
    }
