-- The factors of a tree all of whose weights are known are the bits of its factor records. Assumes nothing.
use Rattle.std.specs.Prelude.{Some, None}
use mathlib.Core.Path.{◌≡◌, refl, sym, ap, ◌∙◌}
use mathlib.Core.Bool.{Bool, true, false, cond, ◌&&◌, true≢false, false≢true}
use mathlib.Core.List.{List, [], ◌∷◌, ◌++◌, map}
use Prim.Native.Nat.{ℕ, ◌≤◌}
use lib.Dec.{eqb, leb}
use lib.ListN.{get_or}
use lib.Ieee.{Float, binary64, of_bits}
use borrow.Author.Tests.{eqb-true, leb-true}
use Rattle.leaf_node.specs.Record.{Record}
use Rattle.leaf_node.specs.Fits.{All, nil, cons}
use Rattle.leaf_model.proofs.Tests.{and_left, and_right}
use Rattle.melt_weight.specs.declared.Weight.TheVariants.{Piece, Sprue, Factor}
use Rattle.melt_weight.specs.Weight.{body_of, is_kind, least_factor, most_factor, factor_of, weight_limit, limited, long_weight_of, weight_of}
use Rattle.melt_scale.specs.Tree.{of_tree, weights_in, is_known, all_known, factors_of, factors, bits_of, factor_bits}

-- bits of a factor from 1 to 32
abbrev pub InRange : ℕ → Type 0
InRange b = (least_factor ≤ b) × (b ≤ most_factor)

-- these floats are these bits
pub record AreBits (xs : List Float) (bs : List ℕ) : Type 0 where
  pub same : xs ≡ map (of_bits binary64) bs
  pub inside : All InRange bs

no_bits : AreBits [] []
no_bits = record { same = refl; inside = nil }

more_bits : {xs ys : List Float} {bs cs : List ℕ} → AreBits xs bs → AreBits ys cs → AreBits (xs ++ ys) (bs ++ cs)
more_bits {xs} {ys} {bs} {cs} a b = record { same = rw (a.same, b.same) (joined bs cs); inside = both a.inside b.inside }
  where
    joined : (bs cs : List ℕ) → map (of_bits binary64) bs ++ map (of_bits binary64) cs ≡ map (of_bits binary64) (bs ++ cs)
    joined [] cs = refl
    joined (b ∷ bs) cs = ap (λ (l : List Float). of_bits binary64 b ∷ l) (joined bs cs)

    both : {bs cs : List ℕ} → All InRange bs → All InRange cs → All InRange (bs ++ cs)
    both nil g = g
    both (cons p f) g = cons p (both f g)

-- ---- one value

of_one_kind : (v : List ℕ) (k l : ℕ) → is_kind k l v ≡ true → get_or v 0 0 ≡ k
of_one_kind v k l e = eqb-true (get_or v 0 0) k (and_left (eqb (get_or v 0 0) k) _ e)

a_long_weight_is_no_factor : (v : List ℕ) → factors_of (long_weight_of v) ≡ []
unfolding long_weight_of limited
a_long_weight_is_no_factor v = go (is_kind 4 9 v) (is_kind 5 9 v) (leb (body_of v) weight_limit)
  where
    go : (a b c : Bool) → factors_of (cond a (cond c (Some (Piece (body_of v))) None) (cond b (cond c (Some (Sprue (body_of v))) None) None)) ≡ []
    go true b true = refl
    go true b false = refl
    go false true true = refl
    go false true false = refl
    go false false c = refl

a_value_is_its_bits : (v : List ℕ) → is_known (weight_of v) ≡ true → AreBits (factors_of (weight_of v)) (bits_of v)
unfolding weight_of factor_of
a_value_is_its_bits v = go (is_kind 1 5 v) refl (is_kind 2 5 v) refl (is_kind 3 9 v) refl (leb least_factor (body_of v) && leb (body_of v) most_factor) refl
  where
    no_factor : (k l : ℕ) → is_kind k l v ≡ true → eqb k 3 ≡ false → is_kind 3 9 v ≡ false
    no_factor k l e d = rw (of_one_kind v k l e, d)

    go : (a : Bool) → is_kind 1 5 v ≡ a → (b : Bool) → is_kind 2 5 v ≡ b → (c : Bool) → is_kind 3 9 v ≡ c → (d : Bool) → (leb least_factor (body_of v) && leb (body_of v) most_factor) ≡ d
        → is_known (cond a (Some (Piece (body_of v))) (cond b (Some (Sprue (body_of v))) (cond c (cond d (Some (Factor (of_bits binary64 (body_of v)))) None) (long_weight_of v)))) ≡ true
        → AreBits (factors_of (cond a (Some (Piece (body_of v))) (cond b (Some (Sprue (body_of v))) (cond c (cond d (Some (Factor (of_bits binary64 (body_of v)))) None) (long_weight_of v))))) (cond c (body_of v ∷ []) [])
    go true ea b eb true ec d ed h = absurd (true≢false (sym ec ∙ no_factor 1 5 ea refl))
    go true ea b eb false ec d ed h = no_bits
    go false ea true eb true ec d ed h = absurd (true≢false (sym ec ∙ no_factor 2 5 eb refl))
    go false ea true eb false ec d ed h = no_bits
    go false ea false eb true ec true ed h = record {
      same = refl;
      inside = cons (leb-true least_factor (body_of v) (and_left (leb least_factor (body_of v)) _ ed), leb-true (body_of v) most_factor (and_right (leb least_factor (body_of v)) _ ed)) nil;
    }
    go false ea false eb true ec false ed h = absurd (false≢true h)
    go false ea false eb false ec d ed h = record { same = a_long_weight_is_no_factor v; inside = nil }

-- ---- all values

pub factors_are_the_bits_of_their_records : (tree : List ℕ) (rs : List Record) → all_known (weights_in tree rs) ≡ true → AreBits (factors (weights_in tree rs)) (factor_bits tree rs)
factors_are_the_bits_of_their_records tree [] h = no_bits
factors_are_the_bits_of_their_records tree (r ∷ rs) h = go (of_tree tree r) (factors_are_the_bits_of_their_records tree rs) h
  where
    go : (b : Bool) → (all_known (weights_in tree rs) ≡ true → AreBits (factors (weights_in tree rs)) (factor_bits tree rs))
        → all_known (elim b [ true ↦ weight_of r.value ∷ weights_in tree rs | false ↦ weights_in tree rs ]) ≡ true
        → AreBits (factors (elim b [ true ↦ weight_of r.value ∷ weights_in tree rs | false ↦ weights_in tree rs ])) (elim b [ true ↦ bits_of r.value ++ factor_bits tree rs | false ↦ factor_bits tree rs ])
    go true ih h = more_bits (a_value_is_its_bits r.value (and_left (is_known (weight_of r.value)) _ h)) (ih (and_right (is_known (weight_of r.value)) _ h))
    go false ih h = ih h
