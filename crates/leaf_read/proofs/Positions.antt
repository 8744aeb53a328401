-- Document 02, M-102: what the position of an absent key says, of what `get` answers. Assumes nothing.
use Prim.Native.Nat.{ℕ, zero, suc, ◌+◌, ◌-◌, ◌≤◌, ◌<◌}
use mathlib.Core.Path.{◌≡◌, refl, sym, ap, ◌∙◌}
use mathlib.Core.Bool.{Bool, true, false, cond, true≢false}
use mathlib.Core.List.{List, ◌∷◌, ◌++◌}
use native.Mathlib.Omega.{arith}
use lib.Dec.{eqb}
use borrow.Author.Tests.{eqb-true}
use Rattle.bit_ops.specs.Key.{num}
use Rattle.std.specs.Prelude.{Result, Ok, Err}
use Rattle.leaf_node.specs.Limits.{PageSize}
use Rattle.leaf_node.specs.Record.{Record}
use Rattle.leaf_node.specs.Page.{count, key_at, record_at, run, records_between, records}
use Rattle.leaf_node.specs.Good.{page_verdict, Good}
use Rattle.leaf_node.specs.Search.{search_of}
use Rattle.leaf_node.specs.Fits.{All, nil, cons, Rising, rise∷}
use Rattle.leaf_node.specs.declared.Cell.{Cell}
use Rattle.leaf_node.proofs.Lengths.{run_append, all_run}
use Rattle.leaf_node.proofs.Verdicts.{accepted_pages_are_the_good_ones}
use Rattle.leaf_node.proofs.Searches.{rise_on, an_absent_key_stands_at_the_end_at_most, records_before_an_absent_key_are_below_it, records_behind_an_absent_key_are_above_it}
use Rattle.leaf_node.proofs.RoundTrips.{rise_run}
use Rattle.leaf_read.specs.Reply.{get_of, get_reply}

-- ---- the answer tells what was found

position : Result (Result Cell ℕ) ℕ → ℕ
position (Err n) = 0
position (Ok (Err i)) = i
position (Ok (Ok c)) = 0

is_absent : Result (Result Cell ℕ) ℕ → Bool
is_absent (Err n) = false
is_absent (Ok (Err i)) = true
is_absent (Ok (Ok c)) = false

absent_place : (p : List ℕ) (s : Result ℕ ℕ) (i : ℕ) → ◌≡◌ {A = Result (Result Cell ℕ) ℕ} (Ok (get_of p s)) (Ok (Err i)) → s ≡ Err i
unfolding position is_absent
absent_place p (Ok j) i e = absurd (true≢false (sym (ap is_absent e)))
absent_place p (Err j) i e = ap Err (ap position e)

all_append : {P : Record → Type 0} {xs ys : List Record} → All P xs → All P ys → All P (xs ++ ys)
all_append nil b = b
all_append (cons h a) b = cons h (all_append a b)

module _ (size : ℕ) (q : PageSize size) (p k : List ℕ) (i : ℕ) (e : get_reply size p k ≡ Ok (Err i)) where
  answered : (page_verdict size p ≡ 0) × (search_of p 0 k ≡ Err i)
  unfolding get_reply is_absent
  answered = go (eqb (page_verdict size p) 0) refl e
    where
      go : (b : Bool) → eqb (page_verdict size p) 0 ≡ b → cond b (Ok (get_of p (search_of p 0 k))) (Err (page_verdict size p)) ≡ Ok (Err i)
          → (page_verdict size p ≡ 0) × (search_of p 0 k ≡ Err i)
      go true z f = (eqb-true (page_verdict size p) 0 z, absent_place p (search_of p 0 k) i f)
      go false z f = absurd (true≢false (sym (ap is_absent f)))

  good : Good size p
  good = (accepted_pages_are_the_good_ones size p).0 answered.0

  -- "the position at which the key would stand, 0 to n": the records before it have smaller keys, those from it on greater ones
  pub record Position : Type 0 where
    pub within : i ≤ count p
    pub before : (j : ℕ) → j < i → num (key_at p j) < num k
    pub behind : (j : ℕ) → i ≤ j → j < count p → num k < num (key_at p j)

  pub an_absent_key's_position : Position
  an_absent_key's_position = record {
    within = an_absent_key_stands_at_the_end_at_most size p q good 0 k i answered.1 (omega arith);
    before = λ j l. records_before_an_absent_key_are_below_it size p q good 0 k i answered.1 j (omega arith) l;
    behind = records_behind_an_absent_key_are_above_it size p q good 0 k i answered.1;
  }

  -- a record of that key put in there: the page's records, in two parts, and it between them, rise
  module _ (r : Record) (n : r.key ≡ k) where
    rest_rises : Rising (r ∷ records_between p i (count p))
    unfolding records_between record_at
    rest_rises =
        rise∷ (all_run (λ y. num r.key < num y.key) (count p - i) i (record_at p) (λ j a b. rw n (an_absent_key's_position.behind j a (omega (arith, an_absent_key's_position.within)))))
        (rise_run size p q good (count p - i) i (omega (arith, an_absent_key's_position.within)))

    before_rises : (m s : ℕ) → s + m ≡ i → Rising (run m s (record_at p) ++ (r ∷ records_between p i (count p)))
    unfolding run records_between record_at
    before_rises zero s f = rest_rises
    before_rises (suc m) s f =
        let w = an_absent_key's_position.within in
        rise∷ (all_append (all_run (λ y. num (key_at p s) < num y.key) m (suc s) (record_at p) (λ j a b. rise_on p good.keys s j a (omega arith)))
        (cons {x = r} (rw n (an_absent_key's_position.before s (omega arith)))
        (all_run (λ y. num (key_at p s) < num y.key) (count p - i) i (record_at p) (λ j a b. rise_on p good.keys s j (omega arith) (omega arith)))))
        (before_rises m (suc s) (omega arith))

    pub record Stands : Type 0 where
      pub parts : records p ≡ records_between p 0 i ++ records_between p i (count p)
      pub rising : Rising (records_between p 0 i ++ (r ∷ records_between p i (count p)))

    pub there_the_key_would_stand : Stands
    unfolding records records_between
    there_the_key_would_stand =
        let w = an_absent_key's_position.within in
        let a : count p - 0 ≡ i - 0 + (count p - i) = omega arith in
        let b : 0 + (i - 0) ≡ i = omega arith in
        record {
          parts = rw a (run_append (i - 0) (count p - i) 0 (record_at p) ∙ rw b);
          rising = before_rises (i - 0) 0 (omega arith);
        }
