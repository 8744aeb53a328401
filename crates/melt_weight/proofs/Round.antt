-- A value of binary64 that is rounded in the normal range differs from the exact fraction by at most one part in 2 ^ 53 of it. Assumes nothing.
use Rattle.std.proofs.Common.{◌≡◌, ℕ, zero, suc, ◌+◌, ◌-◌, ◌*◌, ◌/◌, ◌%◌, ◌^◌, ◌<◌, ◌≤◌, false, not, T, ◌⊎◌, pos, sym, ap, ◌∙◌, subst, inl, inr, le_trans, le_of_eq, lt_of_le_of_lt, mul-le-mul_right, mod-lt, mul_assoc, mul_comm, add-mul, mul-le-mul, mul-pos, one-mul, div-add-mod', le-div_iff_mul-le, mul-one, mul_right_comm, le_of_mul-le-mul_right, arith, lit<, lit≤, eqb→eq, leb→le, pow_pos, pow_mono, pow-add}
use Prim.Native.Nat.{compare, Ordering}
use native.Mathlib.Nat.{mul-sub}
use lib.Dec.{is_le, compare_is_eq, nleb→lt}
use lib.Pow.{pow-lt}
use lib.Ieee.{Float, fin, le, binary64, low, size, nearest, round, mul, of_int}
use lib.Ieee.Digits.{size_reaches}
use lib.Ieee.Nearest.{closest}
use lib.Ieee.Order.{drop, kept}
use lib.Ieee.Scale.{grid, overflow, round_val, normal_of_fraction}
use lib.Ieee.Exact.{HasValue}
use lib.Ieee.Back.{round_whole}
use lib.Ieee.Positive.{num, den, positive, between, le→cross, own_value, mul_at, den_pos, value→cross, positive_of_value}
use Rattle.melt_weight.specs.Sheet.{Near}

abbrev Cmp : Ordering → ℕ → ℕ → Type 0
Cmp Ordering.lt a b = a ≤ b
Cmp Ordering.eq a b = a ≡ b
Cmp Ordering.gt a b = b < a

cmp : (a b : ℕ) → Cmp (compare a b) a b
cmp a b = go (compare a b) (leb→le a b) (nleb→lt a b) (eqb→eq a b)
  where
    go : (o : Ordering) → (T (is_le o) → a ≤ b) → (T (not (is_le o)) → b < a) → (T (compare_is_eq o) → a ≡ b) → Cmp o a b
    go Ordering.lt h k e = h tt
    go Ordering.eq h k e = e tt
    go Ordering.gt h k e = k tt

-- q u differs from n by at most half of u
abbrev Half : ℕ → ℕ → ℕ → Type 0
Half q u n = ((q * u - n) * 2 ≤ u) × ((n - q * u) * 2 ≤ u)

parity : (w u : ℕ) → ((w + w % 2) * u ≡ w * u) ⊎ ((w + w % 2) * u ≡ w * u + u)
parity w u = go (w % 2) (omega arith)
  where
    go : (b : ℕ) → b < 2 → ((w + b) * u ≡ w * u) ⊎ ((w + b) * u ≡ w * u + u)
    go zero l = inl (ap (λ (z : ℕ). z * u) (omega arith))
    go (suc b) l = inr (ap (λ (z : ℕ). z * u) (omega arith) ∙ add-mul w 1 u ∙ omega arith)

half_at : (o : Ordering) (w r u n : ℕ) → w * u + r ≡ n → r < u → Cmp o (r * 2) u → Half (nearest w o) u n
half_at Ordering.lt w r u n e l c = (omega arith, omega arith)
half_at Ordering.eq w r u n e l c = elim (parity w u) [ inl p ↦ (omega arith, omega arith) | inr p ↦ (omega arith, omega arith) ]
half_at Ordering.gt w r u n e l c = let p : suc w * u ≡ w * u + u = ap (λ (z : ℕ). z * u) (omega arith) ∙ add-mul w 1 u ∙ omega arith in (omega arith, omega arith)

half : (n u : ℕ) → 0 < u → Half (closest n u) u n
half n u U = half_at (compare (n % u * 2) u) (n / u) (n % u) u n (div-add-mod' n u) (mod-lt n U) (cmp (n % u * 2) u)

near_at : (t u n : ℕ) → (t - n) * 2 ≤ u → (n - t) * 2 ≤ u → u * 2 ^ 52 ≤ n → ((t - n) * 2 ^ 53 ≤ n) × ((n - t) * 2 ^ 53 ≤ n)
near_at t u n x y h = (omega arith, omega arith)

digits : (z : ℕ) → 53 ≤ z → 52 + (z - 53) < z
digits z h = omega arith

-- n / c in units, with all its digits
near_units : (n c : ℕ) → 0 < c → 53 ≤ size (n / c) → ((kept 53 n c * 2 ^ drop 53 n c * c - n) * 2 ^ 53 ≤ n) × ((n - kept 53 n c * 2 ^ drop 53 n c * c) * 2 ^ 53 ≤ n)
near_units n c C N =
    let k = drop 53 n c in
    let u = c * 2 ^ k in
    let h = half n u (mul-pos C (pow_pos k)) in
    let e : closest n u * u ≡ closest n u * 2 ^ k * c = ap (λ (z : ℕ). closest n u * z) (mul_comm c (2 ^ k)) ∙ sym (mul_assoc (closest n u) (2 ^ k) c) in
    let big : 2 ^ (52 + k) * c ≤ n = (le-div_iff_mul-le C).0 (size_reaches (n / c) (52 + k) (digits (size (n / c)) N)) in
    let enough : u * 2 ^ 52 ≤ n = le_trans (le_of_eq (mul_assoc c (2 ^ k) (2 ^ 52) ∙ mul_comm c (2 ^ k * 2 ^ 52) ∙ ap (λ (z : ℕ). z * c) (mul_comm (2 ^ k) (2 ^ 52) ∙ sym (pow-add 2 52 k)))) big in
    subst (λ (t : ℕ). ((t - n) * 2 ^ 53 ≤ n) × ((n - t) * 2 ^ 53 ≤ n)) e (near_at (closest n u * u) u n h.0 h.1 enough)

pub near_grid : (a c : ℕ) → 0 < c → 2 ^ 52 * c ≤ a * 2 ^ low binary64 → Near (grid binary64 a c) (2 ^ low binary64) a c
near_grid a c C N = near_units (a * 2 ^ low binary64) c C (normal_of_fraction binary64 a c C N)

-- the same fraction under another name
pub near_same : (g L r D a c : ℕ) → 0 < L → r * L ≡ g * D → Near g L a c → Near r D a c
near_same g L r D a c pl e h = (cancel (r * c) (a * D) (g * c) (a * L) one two h.0, cancel' (r * c) (a * D) (g * c) (a * L) one two h.1)
  where
    one : r * c * L ≡ g * c * D
    one = mul_right_comm r c L ∙ ap (λ (z : ℕ). z * c) e ∙ mul_right_comm g D c

    two : a * D * L ≡ a * L * D
    two = mul_right_comm a D L

    scale : (x y k : ℕ) → (x - y) * k ≡ x * k - y * k
    scale x y k = mul_comm (x - y) k ∙ mul-sub k x y ∙ ap (λ (z : ℕ). z - k * y) (mul_comm k x) ∙ ap (λ (z : ℕ). x * k - z) (mul_comm k y)

    cancel : (x y u v : ℕ) → x * L ≡ u * D → y * L ≡ v * D → (u - v) * 2 ^ 53 ≤ v → (x - y) * 2 ^ 53 ≤ y
    cancel x y u v p q h' =
        le_of_mul-le-mul_right
        (le_trans (le_of_eq (mul_right_comm (x - y) (2 ^ 53) L ∙ ap (λ (z : ℕ). z * 2 ^ 53) (scale x y L ∙ ap (λ (z : ℕ). z - y * L) p ∙ ap (λ (z : ℕ). u * D - z) q ∙ sym (scale u v D)) ∙ mul_right_comm (u - v) D (2 ^ 53)))
        (le_trans (mul-le-mul_right D h') (le_of_eq (sym q)))) pl

    cancel' : (x y u v : ℕ) → x * L ≡ u * D → y * L ≡ v * D → (v - u) * 2 ^ 53 ≤ v → (y - x) * 2 ^ 53 ≤ y
    cancel' x y u v p q h' =
        le_of_mul-le-mul_right
        (le_trans (le_of_eq (mul_right_comm (y - x) (2 ^ 53) L ∙ ap (λ (z : ℕ). z * 2 ^ 53) (scale y x L ∙ ap (λ (z : ℕ). z - x * L) q ∙ ap (λ (z : ℕ). v * D - z) p ∙ sym (scale v u D)) ∙ mul_right_comm (v - u) D (2 ^ 53)))
        (le_trans (mul-le-mul_right D h') (le_of_eq (sym q)))) pl

-- no overflow: a / c is at most 2 ^ 58
under : (g c a L : ℕ) → 0 < c → a ≤ 2 ^ 58 * c → (g * c - a * L) * 2 ^ 53 ≤ a * L → g ≤ 2 ^ 59 * L
under g c a L C h k =
    let big : a * L ≤ 2 ^ 58 * c * L = mul-le-mul_right L h in
    let two : g * c ≤ a * L * 2 = omega arith in
    let three : a * L * 2 ≤ 2 ^ 58 * c * L * 2 = mul-le-mul_right 2 big in
    let same : 2 ^ 58 * c * L * 2 ≡ 2 ^ 59 * L * c = mul_right_comm (2 ^ 58 * c) L 2 ∙ ap (λ (z : ℕ). z * L) (mul_right_comm (2 ^ 58) c 2) ∙ mul_right_comm (2 ^ 59) c L in
    le_of_mul-le-mul_right (le_trans two (le_trans three (le_of_eq same))) C

-- the rounded product of a whole number up to 2 ^ 53 and a factor from 1 to 32
pub product_near : (n : ℕ) (x : Float) → 0 < n → n ≤ 2 ^ 53 → T (le (fin false 1 (pos 0)) x) → T (le x (fin false 1 (pos 5)))
    → Near (num (mul binary64 (of_int binary64 (pos n)) x)) (den (mul binary64 (of_int binary64 (pos n)) x)) (n * num x) (den x)
unfolding of_int
product_near n x N M lo hi =
    let px : T (positive x) = between (fin false 1 (pos 0)) x (fin false 1 (pos 5)) tt tt lo hi in
    let t = round binary64 false n 1 in
    let ht : HasValue t false n 1 = round_whole binary64 false n M in
    let pt : T (positive t) = positive_of_value t n 1 ht N in
    let c = den x in
    let C : 0 < c = den_pos x in
    let a = n * num x in
    let m : mul binary64 t x ≡ round binary64 false a c = mul_at binary64 t x n 1 (num x) c pt px (lit< tt) C ht (own_value x px) ∙ ap (round binary64 false a) (one-mul c) in
    let low' : c ≤ num x = subst (λ (z : ℕ). z ≤ num x) (one-mul c) (le_trans (le→cross (fin false 1 (pos 0)) x tt px lo) (le_of_eq (mul-one (num x)))) in
    let high : num x ≤ 32 * c = le_trans (le_of_eq (sym (mul-one (num x)))) (le→cross x (fin false 1 (pos 5)) px tt hi) in
    let more : num x ≤ a = le_trans (le_of_eq (sym (one-mul (num x)))) (mul-le-mul_right (num x) N) in
    let most : a ≤ 2 ^ 58 * c = le_trans (mul-le-mul M high) (le_of_eq (sym (mul_assoc (2 ^ 53) 32 c))) in
    let normal : 2 ^ 52 * c ≤ a * 2 ^ low binary64 = le_trans (mul-le-mul {n₁ = 2 ^ 52} {n₂ = 2 ^ low binary64} (pow_mono {i = 52} {j = low binary64} (lit≤ tt)) (le_trans low' more)) (le_of_eq (mul_comm (2 ^ low binary64) a)) in
    let near = near_grid a c C normal in
    let fits : grid binary64 a c < overflow binary64 = lt_of_le_of_lt (under (grid binary64 a c) c a (2 ^ low binary64) C most near.0) (subst (λ (z : ℕ). z < overflow binary64) (pow-add 2 59 (low binary64)) (pow-lt {i = 59 + low binary64} {j = low binary64 + 1024} (lit< tt))) in
    let r = round binary64 false a c in
    let cross = value→cross r (grid binary64 a c) (2 ^ low binary64) (round_val binary64 a c fits) in
    subst (λ (z : Float). Near (num z) (den z) a c) (sym m) (near_same (grid binary64 a c) (2 ^ low binary64) (num r) (den r) a c (pow_pos (low binary64)) cross near)
