-- The twin call and the part call: the place of a pending record lies in its holder, and the part is the bytes there. Assumes nothing.
use mathlib.Core.Path.{◌≡◌, refl, sym, ap, ◌∙◌}
use mathlib.Core.Bool.{Bool, true, false, cond}
use mathlib.Core.List.{List, [], ◌∷◌}
use Prim.Native.Nat.{ℕ, zero, suc, ◌+◌, ◌-◌, ◌≤◌, ◌<◌}
use native.Mathlib.Omega.{arith}
use lib.Dec.{eqb}
use lib.ListN.{length, get_or, take}
use borrow.Author.Tests.{eq-eqb, ne_eqb, eqb-true, eqb-false}
use Rattle.std.specs.Prelude.{Result, Ok, Err, IfOk}
use Rattle.refusal.specs.declared.Refusal.{Refusal}
use Rattle.leaf_node.specs.Limits.{PageSize}
use Rattle.leaf_node.specs.Page.{count, length_at}
use Rattle.leaf_node.specs.Steps.{Laid}
use Rattle.leaf_node.specs.Fits.{All, nil, cons}
use Rattle.leaf_node.proofs.Laying.{start_inside}
use Rattle.leaf_node.proofs.Lengths.{all_run}
use Rattle.leaf_model.proofs.Lists.{all_append}
use Rattle.leaf_work.specs.declared.Work.{Work}
use Rattle.leaf_work.specs.declared.Entry.{Entry}
use Rattle.leaf_work.specs.Lent.{blank, reads_base, regarded}
use Rattle.leaf_work.specs.Pending.{Holder, Store, Base, Place, in_base, chunk_places, insert_place, entry_places, places_of, pending_places}
use Rattle.leaf_work.specs.Verdict.{lent_verdict}
use Rattle.leaf_work.specs.Outcome.{TwinReply, TwinRefused, Found, nth_place, twin_on, twin_of, part_by}
use Rattle.leaf_work.specs.Ready.{EntryIn, Ready}
use Rattle.leaf_work.proofs.Readiness.{accepted_things_are_ready}
use Rattle.leaf_pending.specs.declared.Place as found
use Rattle.leaf_pending.specs.Reply.{holder_number, place_of, twin_reply, twin_out, twin_part}
use Rattle.leaf_pending.specs.Steps.{Walk, LiesIn, TwinIn}

-- ---- the law: the part is the bytes at the twin's place

pub the_part_is_the_bytes_at_the_twins_place : (store page : List ℕ) (x : TwinReply) → twin_part store page (twin_out x) ≡ part_by store page x
unfolding twin_part twin_out
the_part_is_the_bytes_at_the_twins_place store page (TwinRefused n) = refl
the_part_is_the_bytes_at_the_twins_place store page (Found x) = go x.holder refl
  where
    go : (h : Holder) → x.holder ≡ h → twin_part store page (twin_out (Found x)) ≡ part_by store page (Found x)
    go Store e = rw e
    go Base e = rw e

-- ---- the place of a pending record lies in its holder

module _ (store p : List ℕ) where
  base_lies : (i : ℕ) → Laid p (count p) → i < count p → LiesIn store p (in_base p i)
  unfolding in_base length_at
  base_lies i l h = omega (arith, l.steps i h, start_inside p (count p) l (i + 1) (omega arith))

  module _ (laid : 0 < count p → Laid p (count p)) where
    chunk_lies : (from to : ℕ) → from ≤ to → to ≤ count p → All (LiesIn store p) (chunk_places p from to)
    unfolding chunk_places
    chunk_lies from to o h = all_run (LiesIn store p) (to - from) from (in_base p) (λ k a b. base_lies k (laid (omega arith)) (omega arith))

    module _ (low filled : ℕ) (l : low ≤ count p) (f : filled ≤ length store) where
      entry_lies : (e : Entry) → EntryIn low filled e → All (LiesIn store p) (entry_places p e)
      unfolding entry_places
      entry_lies e h = go (eqb e.kind 1) refl
        where
          go : (b : Bool) → eqb e.kind 1 ≡ b → All (LiesIn store p) (entry_places p e)
          go true q = let k = h.insert (eqb-true _ _ q) in rw (entry_places, q) (cons {x = insert_place e} (omega (arith, k.0, k.1)) nil)
          go false q = let k = h.chunk (eqb-false _ _ q) in rw (entry_places, q) (chunk_lies e.from e.to (omega (arith, k.0)) (omega (arith, k.1)))

      entries_lie : (n : ℕ) (xs : List Entry) → ((i : ℕ) → i < n → EntryIn low filled (get_or xs i blank)) → All (LiesIn store p) (places_of p (take n xs))
      entries_lie zero xs h = nil
      entries_lie (suc n) [] h = nil
      entries_lie (suc n) (x ∷ xs) h = all_append (entry_lies x (h 0 (omega arith))) (entries_lie n xs (λ i k. h (suc i) (omega arith)))

  pub pending_places_lie_in_their_holders : (w : Work) (list : List Entry) → Ready w list store p → All (LiesIn store p) (pending_places w list p)
  pending_places_lie_in_their_holders w list r =
      all_append (entries_lie r.laid w.low w.filled r.low_in r.filled_in w.used list r.entries) (chunk_lies r.laid w.low (count p) r.low_in (omega arith))

  nth_lies : {xs : List Place} → All (LiesIn store p) xs → (i : ℕ) (x : Place) → nth_place i xs ≡ Found x → LiesIn store p x
  nth_lies nil i x e = cc
  nth_lies (cons {x = y} l a) zero x e = let f : y ≡ x = cc in rw f at l
  nth_lies (cons l a) (suc i) x e = nth_lies a i x e

  -- a place in the page as the work regards it is one in the page that is lent
  lies_in_the_longer : (page : List ℕ) → length p ≤ length page → (x : Place) → LiesIn store p x → LiesIn store page x
  lies_in_the_longer page h x l = go x.holder refl
    where
      go : (d : Holder) → x.holder ≡ d → LiesIn store page x
      go Store e = rw e (rw e at l)
      go Base e = let m : x.offset + x.size ≤ length p = rw e at l in rw e (omega arith)

regarded_is_no_longer : (w : Work) (page : List ℕ) → length (regarded w page) ≤ length page
regarded_is_no_longer w page = go (reads_base w)
  where
    go : (b : Bool) → length (cond b page []) ≤ length page
    go true = omega arith
    go false = omega arith

-- ---- the calls

refused_on : (v : ℕ) (xs : List Place) (i : ℕ) → (v ≡ 0 → ⊥) → TwinRefused v ≡ twin_on v xs i
unfolding twin_on
refused_on v xs i h = rw (twin_on, ne_eqb v 0 h)

found_on : (v : ℕ) (xs : List Place) (i : ℕ) → v ≡ 0 → nth_place i xs ≡ twin_on v xs i
unfolding twin_on
found_on v xs i z = rw (twin_on, eq-eqb v 0 z)

pub accepted_walk : (size : ℕ) (w : Work) (list : List Entry) (store page : List ℕ) (v : ℕ) → v ≡ lent_verdict size w list store page → v ≡ 0
    → (p : List ℕ) → p ≡ regarded w page → PageSize size → (n : ℕ) → n ≡ count p → Walk w list n
accepted_walk size w list store page v e z p q s n m =
    let r = accepted_things_are_ready size w list store page (sym e ∙ z) s in
    rw (m, q) (record { used_in = r.used_in; low_in = r.low_in; entries = r.entries })

module _ (size : ℕ) (w : Work) (list : List Entry) (store page : List ℕ) (i : ℕ) where
  abbrev xs : List Place
  xs = pending_places w list (regarded w page)

  module _ (v : ℕ) (e : v ≡ lent_verdict size w list store page) where
    pub refused_twin : (v ≡ 0 → ⊥) → TwinRefused v ≡ twin_of size w list store page i
    refused_twin h = refused_on v xs i h ∙ ap (λ (n : ℕ). twin_on n xs i) e

    pub accepted_twin : v ≡ 0 → (p : List ℕ) → p ≡ regarded w page → (r : TwinReply) → r ≡ nth_place i (pending_places w list p) → r ≡ twin_of size w list store page i
    accepted_twin z p f r q = q ∙ rw f (found_on v xs i z ∙ ap (λ (n : ℕ). twin_on n xs i) e)

  module _ (q : PageSize size) where
    found_twin_lies : (x : Place) → twin_of size w list store page i ≡ Found x → LiesIn store page x
    found_twin_lies x f = go (lent_verdict size w list store page) refl (eqb (lent_verdict size w list store page) 0) refl
      where
        go : (v : ℕ) → v ≡ lent_verdict size w list store page → (b : Bool) → eqb v 0 ≡ b → LiesIn store page x
        go v e true t =
            let z : v ≡ 0 = eqb-true v 0 t in
            let r = accepted_things_are_ready size w list store page (sym e ∙ z) q in
            let g : nth_place i xs ≡ Found x = found_on v xs i z ∙ ap (λ (n : ℕ). twin_on n xs i) e ∙ f in
            lies_in_the_longer store (regarded w page) page (regarded_is_no_longer w page) x
            (nth_lies store (regarded w page) (pending_places_lie_in_their_holders store (regarded w page) w list r) i x g)
        go v e false t = let g : TwinRefused v ≡ Found x = refused_on v xs i (eqb-false v 0 t) ∙ ap (λ (n : ℕ). twin_on n xs i) e ∙ f in cc

    pub a_twin_lies_in_its_holder : (r : Result found.Place Refusal) → twin_reply r ≡ twin_of size w list store page i → IfOk r (λ x. LiesIn store page (place_of x))
    a_twin_lies_in_its_holder (Ok x) e = found_twin_lies (place_of x) (sym e)
    a_twin_lies_in_its_holder (Err n) e = tt

    pub twins_lie_in_their_holders : TwinIn (twin_out (twin_of size w list store page i)) store page
    unfolding twin_out
    twins_lie_in_their_holders = go (twin_of size w list store page i) refl
      where
        go : (r : TwinReply) → twin_of size w list store page i ≡ r → TwinIn (twin_out r) store page
        go (TwinRefused n) e = record { in_store = λ k. absurd (omega arith); in_base_lem = λ k. absurd (omega arith) }
        go (Found x) e = held x.holder refl
          where
            lies : LiesIn store page x
            lies = found_twin_lies x e

            held : (d : Holder) → x.holder ≡ d → TwinIn (twin_out (Found x)) store page
            held Store f = record { in_store = λ _. rw f at lies; in_base_lem = λ k. absurd (omega (arith, ap holder_number f)) }
            held Base f = record { in_store = λ k. absurd (omega (arith, ap holder_number f)); in_base_lem = λ _. rw f at lies }
