-- Numbers read low byte first, and weights by kind and length. Assumes nothing.
use Rattle.std.specs.Prelude.{Option, Some, None}
use Rattle.std.proofs.Common.{◌≡◌, ℕ, ◌+◌, ◌<◌, ◌≤◌, Bool, true, false, cond, ◌&&◌, eqb, List, [], ◌∷◌, length, get_or, take, drop, refl, ap, ◌∙◌, arith, length-drop, take_all, ne_eqb, le-leb}
use borrow.Author.Tests.{lt-leb}
use Rattle.std.specs.Int.{w32, w64, from_le_bytes}
use Rattle.melt_weight.specs.declared.Weight.{Weight}
use Rattle.melt_weight.specs.declared.Weight.TheVariants.{Piece, Sprue}
use Rattle.melt_weight.specs.Weight.{low, body_of, factor_of, is_kind, weight_limit, limited, long_weight_of, weight_of}

-- the library's number of the first four bytes and of the first eight
four : (l : List ℕ) → from_le_bytes w32 (take 4 l) ≡ low (take 4 l)
unfolding low
four [] = refl
four (a ∷ []) = omega arith
four (a ∷ b ∷ []) = omega arith
four (a ∷ b ∷ c ∷ []) = omega arith
four (a ∷ b ∷ c ∷ d ∷ l) = omega arith

eight : (l : List ℕ) → from_le_bytes w64 (take 8 l) ≡ low (take 8 l)
unfolding low
eight [] = refl
eight (a ∷ []) = omega arith
eight (a ∷ b ∷ []) = omega arith
eight (a ∷ b ∷ c ∷ []) = omega arith
eight (a ∷ b ∷ c ∷ d ∷ []) = omega arith
eight (a ∷ b ∷ c ∷ d ∷ e ∷ []) = omega arith
eight (a ∷ b ∷ c ∷ d ∷ e ∷ f ∷ []) = omega arith
eight (a ∷ b ∷ c ∷ d ∷ e ∷ f ∷ g ∷ []) = omega arith
eight (a ∷ b ∷ c ∷ d ∷ e ∷ f ∷ g ∷ h ∷ l) = omega arith

module _ (l b : List ℕ) (n : ℕ) where
  pub four_spell : b ≡ take 4 l → n ≡ from_le_bytes w32 b → n ≡ low (take 4 l)
  four_spell e q = rw (q, e) (four l)

  pub eight_spell : b ≡ take 8 l → n ≡ from_le_bytes w64 b → n ≡ low (take 8 l)
  eight_spell e q = rw (q, e) (eight l)

-- the body of a value of n + 1 bytes
pub body_is : (n : ℕ) (v : List ℕ) → length v ≡ n + 1 → take n (drop 1 v) ≡ drop 1 v
body_is n v l = take_all n (drop 1 v) (rw (length-drop 1 v) (omega arith))

-- ---- by length and kind

module _ (v : List ℕ) where
  pub a_piece : length v ≡ 5 → get_or v 0 0 ≡ 1 → (n : ℕ) → n ≡ low (take 4 (drop 1 v)) → Some (Piece n) ≡ weight_of v
  unfolding weight_of
  a_piece l k n e = rw (k, l, e, body_is 4 v l) refl

  pub a_sprue : length v ≡ 5 → get_or v 0 0 ≡ 2 → (n : ℕ) → n ≡ low (take 4 (drop 1 v)) → Some (Sprue n) ≡ weight_of v
  unfolding weight_of
  a_sprue l k n e = rw (k, l, e, body_is 4 v l) refl

  pub a_factor : length v ≡ 9 → get_or v 0 0 ≡ 3 → (n : ℕ) → n ≡ low (take 8 (drop 1 v)) → (w : Option Weight) → w ≡ factor_of n → w ≡ weight_of v
  unfolding weight_of
  a_factor l k n e w f = rw (f, k, l, e, body_is 8 v l) refl

  pub a_long_weight : length v ≡ 9 → (get_or v 0 0 ≡ 3 → ⊥) → (w : Option Weight) → w ≡ long_weight_of v → w ≡ weight_of v
  unfolding weight_of
  a_long_weight l a w f = f ∙ rw (l, ne_eqb (get_or v 0 0) 3 a) (none (eqb (get_or v 0 0) 1) (eqb (get_or v 0 0) 2))
    where
      none : (s t : Bool) → long_weight_of v ≡ cond (s && false) (Some (Piece (body_of v))) (cond (t && false) (Some (Sprue (body_of v))) (long_weight_of v))
      none true true = refl
      none true false = refl
      none false true = refl
      none false false = refl

  no_long_weight : (length v ≡ 9 → ⊥) → None ≡ long_weight_of v
  unfolding long_weight_of
  no_long_weight n = rw (ne_eqb (length v) 9 n) (none (eqb (get_or v 0 0) 4) (eqb (get_or v 0 0) 5))
    where
      none : (s t : Bool) → None ≡ cond (s && false) (limited Piece (body_of v)) (cond (t && false) (limited Sprue (body_of v)) None)
      none true true = refl
      none true false = refl
      none false true = refl
      none false false = refl

  pub no_short_weight : length v ≡ 5 → (get_or v 0 0 ≡ 1 → ⊥) → (get_or v 0 0 ≡ 2 → ⊥) → None ≡ weight_of v
  unfolding weight_of
  no_short_weight l a b =
      no_long_weight (λ n. absurd (omega (arith, l, n))) ∙ rw (l, ne_eqb (get_or v 0 0) 1 a, ne_eqb (get_or v 0 0) 2 b) (none (eqb (get_or v 0 0) 3))
    where
      none : (t : Bool) → long_weight_of v ≡ cond (t && false) (factor_of (body_of v)) (long_weight_of v)
      none true = refl
      none false = refl

  pub no_weight_of_this_length : (length v ≡ 5 → ⊥) → (length v ≡ 9 → ⊥) → None ≡ weight_of v
  unfolding weight_of
  no_weight_of_this_length a b =
      no_long_weight b ∙ rw (ne_eqb (length v) 5 a, ne_eqb (length v) 9 b) (none (eqb (get_or v 0 0) 1) (eqb (get_or v 0 0) 2) (eqb (get_or v 0 0) 3))
    where
      none : (s t u : Bool) → long_weight_of v ≡ cond (s && false) (Some (Piece (body_of v))) (cond (t && false) (Some (Sprue (body_of v))) (cond (u && false) (factor_of (body_of v)) (long_weight_of v)))
      none true true true = refl
      none true true false = refl
      none true false true = refl
      none true false false = refl
      none false true true = refl
      none false true false = refl
      none false false true = refl
      none false false false = refl

-- ---- by kind, of nine bytes

module _ (v : List ℕ) (l : length v ≡ 9) (n : ℕ) (e : n ≡ low (take 8 (drop 1 v))) where
  same : n ≡ body_of v
  same = e ∙ ap low (body_is 8 v l)

  pub a_heavy_weight_is_none : weight_limit < n → None ≡ long_weight_of v
  unfolding long_weight_of limited
  a_heavy_weight_is_none h = rw (← same, lt-leb n weight_limit h) (none (is_kind 4 9 v) (is_kind 5 9 v))
    where
      none : (s t : Bool) → ◌≡◌ {A = Option Weight} None (cond s None (cond t None None))
      none true t = refl
      none false true = refl
      none false false = refl

  module _ (h : n ≤ weight_limit) where
    pub a_long_piece : get_or v 0 0 ≡ 4 → Some (Piece n) ≡ long_weight_of v
    unfolding long_weight_of limited
    a_long_piece k = rw (k, l, ← same, le-leb n weight_limit h) refl

    pub a_long_sprue : get_or v 0 0 ≡ 5 → Some (Sprue n) ≡ long_weight_of v
    unfolding long_weight_of limited
    a_long_sprue k = rw (k, l, ← same, le-leb n weight_limit h) refl

  pub neither_piece_nor_sprue : (get_or v 0 0 ≡ 4 → ⊥) → (get_or v 0 0 ≡ 5 → ⊥) → None ≡ long_weight_of v
  unfolding long_weight_of
  neither_piece_nor_sprue a b = rw (ne_eqb (get_or v 0 0) 4 a, ne_eqb (get_or v 0 0) 5 b) refl
