-- A pending record by its index: in the entry that holds it, else in the base's rest. Assumes nothing.
use mathlib.Core.Path.{◌≡◌, refl, sym, ap, ◌∙◌}
use mathlib.Core.Logic.{◌⊎◌, inl, inr}
use mathlib.Core.Bool.{Bool, true, false}
use mathlib.Core.List.{List, [], ◌∷◌, ◌++◌, append_assoc}
use Prim.Native.Nat.{ℕ, zero, suc, ◌+◌, ◌-◌, ◌<◌}
use native.Mathlib.Omega.{arith}
use lib.Dec.{ltb}
use lib.ListN.{length, get_or, take}
use borrow.Author.Tests.{ltb-true, ltb-false}
use Rattle.leaf_node.specs.Page.{count}
use Rattle.leaf_work.specs.declared.Work.{Work}
use Rattle.leaf_work.specs.declared.Entry.{Entry}
use Rattle.leaf_work.specs.Lent.{blank, regarded}
use Rattle.leaf_work.specs.Pending.{Place, chunk_places, entry_places, records_in, places_of, rest_places}
use Rattle.leaf_work.specs.Verdict.{lent_verdict}
use Rattle.leaf_work.specs.Outcome.{nth_place, twin_of}
use Rattle.leaf_pending.proofs.Walking.{nth_left, nth_right, entry_length}
use Rattle.leaf_pending.proofs.Twins.{accepted_twin}

-- how many records entries have
abbrev pub records_of : List Entry → ℕ
records_of [] = 0
records_of (e ∷ es) = records_in e + records_of es

-- of the first n entries: index i is `left` records into entry j, or behind the records of all
pub record InEntry (n : ℕ) (list : List Entry) (i : ℕ) : Type 0 where
  pub j : ℕ
  pub left : ℕ
  pub used : j < n
  pub there : left < records_in (get_or list j blank)
  pub index_is : i ≡ records_of (take j list) + left

pub record BehindAll (n : ℕ) (list : List Entry) (i : ℕ) : Type 0 where
  pub left : ℕ
  pub index_is : i ≡ records_of (take n list) + left

pub each_index_is_in_an_entry_or_behind_all : (n : ℕ) (list : List Entry) (i : ℕ) → InEntry n list i ⊎ BehindAll n list i
each_index_is_in_an_entry_or_behind_all zero list i = inr (record { left = i; index_is = omega arith })
each_index_is_in_an_entry_or_behind_all (suc n) [] i = inr (record { left = i; index_is = omega arith })
each_index_is_in_an_entry_or_behind_all (suc n) (e ∷ es) i = go (ltb i (records_in e)) refl (each_index_is_in_an_entry_or_behind_all n es (i - records_in e))
  where
    go : (b : Bool) → ltb i (records_in e) ≡ b → InEntry n es (i - records_in e) ⊎ BehindAll n es (i - records_in e) → InEntry (suc n) (e ∷ es) i ⊎ BehindAll (suc n) (e ∷ es) i
    go true q r = inl (record { j = 0; left = i; used = omega arith; there = ltb-true i (records_in e) q; index_is = omega arith })
    go false q (inl x) = inl (record { j = suc x.j; left = x.left; used = omega (arith, x.used); there = x.there; index_is = omega (arith, ltb-false i (records_in e) q, x.index_is) })
    go false q (inr x) = inr (record { left = x.left; index_is = omega (arith, ltb-false i (records_in e) q, x.index_is) })

module _ (p : List ℕ) (ys : List Place) where
  behind_one : (e : Entry) (es : List Entry) (i : ℕ) → nth_place (records_in e + i) (places_of p (e ∷ es) ++ ys) ≡ nth_place i (places_of p es ++ ys)
  behind_one e es i =
      let n : records_in e + i - length (entry_places p e) ≡ i = omega (arith, entry_length p e) in
      ap (nth_place (records_in e + i)) (append_assoc (entry_places p e) (places_of p es) ys)
      ∙ nth_right (entry_places p e) (places_of p es ++ ys) (records_in e + i) (omega (arith, entry_length p e)) ∙ rw n

  -- the records of the entries before entry j, then those of it
  in_the_entry : (j n : ℕ) (list : List Entry) (left : ℕ) → j < n → left < records_in (get_or list j blank)
      → nth_place (records_of (take j list) + left) (places_of p (take n list) ++ ys) ≡ nth_place left (entry_places p (get_or list j blank))
  in_the_entry j n [] left h l = absurd (omega (arith, l))
  in_the_entry j zero (e ∷ es) left h l = absurd (omega arith)
  in_the_entry zero (suc n) (e ∷ es) left h l =
      let z : 0 + left ≡ left = omega arith in
      rw z (ap (nth_place left) (append_assoc (entry_places p e) (places_of p (take n es)) ys)
      ∙ nth_left (entry_places p e) (places_of p (take n es) ++ ys) left (omega (arith, entry_length p e)))
  in_the_entry (suc j) (suc n) (e ∷ es) left h l =
      let a : records_in e + records_of (take j es) + left ≡ records_in e + (records_of (take j es) + left) = omega arith in
      rw a (behind_one e (take n es) (records_of (take j es) + left) ∙ in_the_entry j n es left (omega arith) l)

  behind_all : (es : List Entry) (left : ℕ) → nth_place (records_of es + left) (places_of p es ++ ys) ≡ nth_place left ys
  behind_all [] left = let z : 0 + left ≡ left = omega arith in rw z
  behind_all (e ∷ es) left =
      let a : records_in e + records_of es + left ≡ records_in e + (records_of es + left) = omega arith in
      rw a (behind_one e es (records_of es + left) ∙ behind_all es left)

-- of lent things that earn no refusal: what the call answers
module _ (w : Work) (list : List Entry) (store page : List ℕ) (z : lent_verdict 4096 w list store page ≡ 0) (p : List ℕ) (f : p ≡ regarded w page) (i left : ℕ) where
  pub the_record_is_in_the_entry : (j : ℕ) → j < w.used → left < records_in (get_or list j blank) → i ≡ records_of (take j list) + left
      → twin_of 4096 w list store page i ≡ nth_place left (entry_places p (get_or list j blank))
  the_record_is_in_the_entry j h l e =
      sym (accepted_twin 4096 w list store page i 0 (sym z) refl p f _ (sym (rw e (in_the_entry p (rest_places w p) j w.used list left h l))))

  pub the_record_is_in_the_rest : i ≡ records_of (take w.used list) + left → twin_of 4096 w list store page i ≡ nth_place left (chunk_places p w.low (count p))
  the_record_is_in_the_rest e =
      sym (accepted_twin 4096 w list store page i 0 (sym z) refl p f _ (sym (rw e (behind_all p (rest_places w p) (take w.used list) left))))
