-- Zeros eight at a time. Assumes nothing.
use mathlib.Core.Path.{◌≡◌, refl, sym, ap, ◌∙◌}
use mathlib.Core.Bool.{Bool, true, false, not, ◌&&◌, false≢true, true≢false}
use mathlib.Core.List.{List, [], ◌∷◌, ◌++◌}
use Prim.Native.Nat.{ℕ, ◌+◌, ◌-◌, ◌*◌, ◌^◌, ◌<◌}
use native.Mathlib.Nat.{mul-le-mul_right}
use native.Mathlib.Decide.{dec_lt}
use native.Mathlib.Omega.{arith}
use lib.Dec.{eqb}
use Rattle.std.specs.List.{list_all}
use lib.ListN.{length, length-drop, take, drop, take-append-drop, drop_of_length-le}
use lib.Seq.{drop-drop, take_all}
use borrow.Author.Tests.{eq-eqb, ne_eqb, eqb-true, not-false}
use Rattle.bit_ops.specs.Key.{num}
use Rattle.bit_ops.specs.Steps.{zeros}
use Rattle.bit_ops.proofs.Number.{pow256_pos}
use Rattle.leaf_model.specs.Work.{zero_key}
use Rattle.leaf_work.specs.Tests.{every, is_zero, same_bytes}

-- bytes that spell zero are zeros
zeros_spell_zero : (xs : List ℕ) → eqb (num xs) 0 ≡ every is_zero xs
unfolding num
zeros_spell_zero [] = refl
zeros_spell_zero (x ∷ xs) = go (eqb x 0) refl (zeros_spell_zero xs)
  where
    above : (x ≡ 0 → ⊥) → 0 < x
    above ne = elim (dec_lt 0 x) [ yes l ↦ l | no l ↦ absurd (ne (omega arith)) ]

    go : (b : Bool) → eqb x 0 ≡ b → eqb (num xs) 0 ≡ every is_zero xs → eqb (x * 256 ^ length xs + num xs) 0 ≡ every is_zero (x ∷ xs)
    go true e ih =
        let rest : x * 256 ^ length xs + num xs ≡ num xs = rw (eqb-true x 0 e) (omega arith) in
        rw (rest, e, every) ih
    go false e ih =
        let some : 0 < x = above (λ z. true≢false (sym (eq-eqb x 0 z) ∙ e)) in
        rw (e, every) (ne_eqb (x * 256 ^ length xs + num xs) 0 (λ z. absurd (omega (arith, z, pow256_pos (length xs), mul-le-mul_right (256 ^ length xs) some))))

pub eight_by : (xs : List ℕ) (i n : ℕ) → n ≡ num (take 8 (drop i xs)) → eqb n 0 ≡ every is_zero (take 8 (drop i xs))
eight_by xs i n e = rw e (zeros_spell_zero (take 8 (drop i xs)))

every_append : (xs ys : List ℕ) → every is_zero xs ≡ true → every is_zero (xs ++ ys) ≡ every is_zero ys
every_append [] ys h = refl
every_append (x ∷ xs) ys h = go (is_zero x) refl (every_append xs ys) h
  where
    go : (b : Bool) → is_zero x ≡ b → (every is_zero xs ≡ true → every is_zero (xs ++ ys) ≡ every is_zero ys) → ◌≡◌ {A = Bool} (elim b [ true ↦ every is_zero xs | false ↦ false ]) true
        → every is_zero (x ∷ (xs ++ ys)) ≡ every is_zero ys
    go true e ih h = rw (e, every) (ih h)
    go false e ih h = absurd (false≢true h)

every_left : (xs ys : List ℕ) → every is_zero xs ≡ false → every is_zero (xs ++ ys) ≡ false
every_left [] ys h = absurd (true≢false h)
every_left (x ∷ xs) ys h = go (is_zero x) refl (every_left xs ys) h
  where
    go : (b : Bool) → is_zero x ≡ b → (every is_zero xs ≡ false → every is_zero (xs ++ ys) ≡ false) → ◌≡◌ {A = Bool} (elim b [ true ↦ every is_zero xs | false ↦ false ]) false
        → every is_zero (x ∷ (xs ++ ys)) ≡ false
    go true e ih h = rw (e, every) (ih h)
    go false e ih h = rw (e, every)

module _ (xs : List ℕ) (i : ℕ) (e : every is_zero xs ≡ every is_zero (drop (8 * i) xs)) (t : Bool) (q : t ≡ every is_zero (take 8 (drop (8 * i) xs))) where
  parts : drop (8 * i) xs ≡ take 8 (drop (8 * i) xs) ++ drop (8 * (i + 1)) xs
  parts =
      let n : 8 * i + 8 ≡ 8 * (i + 1) = omega arith in
      sym (take-append-drop 8 (drop (8 * i) xs)) ∙ ap (λ (l : List ℕ). take 8 (drop (8 * i) xs) ++ l) (drop-drop 8 (8 * i) xs ∙ ap (λ (k : ℕ). drop k xs) n)

  pub eight_zeros_more : not t ≡ false → every is_zero xs ≡ every is_zero (drop (8 * (i + 1)) xs)
  eight_zeros_more h = e ∙ ap (λ (l : List ℕ). every is_zero l) parts ∙ every_append (take 8 (drop (8 * i) xs)) (drop (8 * (i + 1)) xs) (sym q ∙ not-false t h)

-- ---- a key

same_as_zeros : (xs : List ℕ) → same_bytes xs (zeros (length xs)) ≡ every is_zero xs
same_as_zeros [] = refl
same_as_zeros (x ∷ xs) = go (eqb x 0) refl (same_as_zeros xs)
  where
    go : (b : Bool) → eqb x 0 ≡ b → same_bytes xs (zeros (length xs)) ≡ every is_zero xs → same_bytes (x ∷ xs) (0 ∷ zeros (length xs)) ≡ every is_zero (x ∷ xs)
    go true e ih = rw (e, same_bytes, every) ih
    go false e ih = rw (e, same_bytes, every)

every_both : (xs ys : List ℕ) → every is_zero (xs ++ ys) ≡ (every is_zero xs && every is_zero ys)
every_both xs ys = go (every is_zero xs) refl
  where
    go : (b : Bool) → every is_zero xs ≡ b → every is_zero (xs ++ ys) ≡ (every is_zero xs && every is_zero ys)
    go true e = every_append xs ys e ∙ rw e
    go false e = every_left xs ys e ∙ rw e

module _ (xs : List ℕ) (l : length xs ≡ 32) (a b c d : Bool) (p : a ≡ every is_zero (take 8 (drop 0 xs))) (q : b ≡ every is_zero (take 8 (drop 8 xs)))
    (r : c ≡ every is_zero (take 8 (drop 16 xs))) (s : d ≡ every is_zero (take 8 (drop 24 xs))) where
  eight_and_the_rest : (i j : ℕ) → j ≡ i + 8 → every is_zero (drop i xs) ≡ (every is_zero (take 8 (drop i xs)) && every is_zero (drop j xs))
  eight_and_the_rest i j e =
      ap (λ (ys : List ℕ). every is_zero ys) (sym (take-append-drop 8 (drop i xs)) ∙ ap (λ (ys : List ℕ). take 8 (drop i xs) ++ ys) (drop-drop 8 i xs ∙ ap (λ (k : ℕ). drop k xs) (sym e)))
      ∙ every_both (take 8 (drop i xs)) (drop j xs)

  none_behind : every is_zero (drop 32 xs) ≡ true
  none_behind = ap (λ (ys : List ℕ). every is_zero ys) (drop_of_length-le xs {i = 32} (omega (arith, l)))

  in_fours : (a b c d : Bool) → ((a && b) && (c && d)) ≡ (a && (b && (c && (d && true))))
  in_fours true true true true = refl
  in_fours true true true false = refl
  in_fours true true false d = refl
  in_fours true false c d = refl
  in_fours false b c d = refl

  all_four : every is_zero xs ≡ ((a && b) && (c && d))
  all_four =
      eight_and_the_rest 0 8 refl ∙ rw (eight_and_the_rest 8 16 refl, eight_and_the_rest 16 24 refl, eight_and_the_rest 24 32 refl, none_behind, ← p, ← q, ← r, ← s) (sym (in_fours a b c d))

  pub four_words_are_the_key : ((a && b) && (c && d)) ≡ same_bytes xs zero_key
  four_words_are_the_key = sym all_four ∙ sym (same_as_zeros xs) ∙ ap (λ (n : ℕ). same_bytes xs (zeros n)) l

-- the library's test of all bytes
all_are_zeros : (xs : List ℕ) → list_all (λ x. eqb x 0) xs ≡ every is_zero xs
all_are_zeros [] = refl
all_are_zeros (x ∷ xs) = go (eqb x 0) (all_are_zeros xs)
  where
    go : (b : Bool) → list_all (λ x. eqb x 0) xs ≡ every is_zero xs → ◌≡◌ {A = Bool} (b && list_all (λ x. eqb x 0) xs) (elim b [ true ↦ every is_zero xs | false ↦ false ])
    go true h = h
    go false h = refl

pub the_last_decide : (xs : List ℕ) (i n : ℕ) (r : Bool) → every is_zero xs ≡ every is_zero (drop (8 * i) xs) → i ≡ n
    → r ≡ list_all (λ x. eqb x 0) (take (length xs - 8 * n) (drop (8 * n) xs)) → r ≡ every is_zero xs
the_last_decide xs i n r e h q =
    let all : take (length xs - 8 * n) (drop (8 * n) xs) ≡ drop (8 * n) xs = take_all _ (drop (8 * n) xs) (omega (arith, length-drop (8 * n) xs)) in
    rw all at q ∙ all_are_zeros (drop (8 * n) xs) ∙ sym (rw h at e)
