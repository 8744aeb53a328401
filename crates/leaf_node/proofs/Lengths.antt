-- How long the parts of a page are, and records joined. Assumes nothing.
use Prim.Native.Nat.{ℕ, zero, suc, ◌+◌, ◌*◌, ◌≤◌, ◌<◌}
use mathlib.Core.Path.{◌≡◌, refl, ap, sym, ◌∙◌}
use mathlib.Core.List.{List, [], ◌∷◌, ◌++◌, append_assoc}
use native.Mathlib.Nat.{add-zero, add_assoc}
use native.Mathlib.Omega.{arith}
use lib.ListN.{length, length-append, length-replicate}
use Rattle.bit_ops.specs.Steps.{zeros}
use Rattle.leaf_node.specs.Record.{Record, body, values, total}
use Rattle.leaf_node.specs.Page.{run}
use Rattle.leaf_node.specs.Build.{le16, pointers}
use Rattle.leaf_node.specs.Fits.{All, nil, cons, Keyed}

pub length_le16 : (w : ℕ) → length (le16 w) ≡ 2
unfolding le16
length_le16 w = refl

pub length_zeros : (n : ℕ) → length (zeros n) ≡ n
length_zeros n = length-replicate n 0

pub length_values : (rs : List Record) → length (values rs) ≡ total rs
unfolding values total
length_values [] = refl
length_values (r ∷ rs) = simp (length-append, length_values rs)

pub length_pointers : (at : ℕ) {rs : List Record} → All Keyed rs → length (pointers at rs) ≡ 34 * length rs
unfolding pointers
length_pointers at nil = refl
length_pointers at (cons {x = r} {xs = rs} k a) =
    let q = length_pointers (at + length r.value) a in
    simp (length-append, length_le16) (omega arith)

pub length_run : {A : Type 0} (m i : ℕ) (f : ℕ → A) → length (run m i f) ≡ m
unfolding run
length_run zero i f = refl
length_run (suc m) i f = ap suc (length_run m (suc i) f)

-- the body of records: 34 bytes for each and their values
pub body_is_pointers_and_values : (rs : List Record) → body rs ≡ 34 * length rs + total rs
unfolding total
body_is_pointers_and_values [] = refl
body_is_pointers_and_values (r ∷ rs) = omega (arith, body_is_pointers_and_values rs)

-- ---- records behind records

pub values_append : (rs ss : List Record) → values (rs ++ ss) ≡ values rs ++ values ss
unfolding values
values_append [] ss = refl
values_append (r ∷ rs) ss = rw (values_append rs ss, append_assoc)

pub pointers_append : (at : ℕ) (rs ss : List Record) → pointers at (rs ++ ss) ≡ pointers at rs ++ pointers (at + total rs) ss
unfolding pointers total
pointers_append at [] ss = rw (add-zero at)
pointers_append at (r ∷ rs) ss = rw (pointers_append (at + length r.value) rs ss, add_assoc) (simp append_assoc)

pub run_append : {A : Type 0} (m k i : ℕ) (f : ℕ → A) → run (m + k) i f ≡ run m i f ++ run k (i + m) f
unfolding run
run_append zero k i f =
    let e : 0 + k ≡ k = omega arith in
    ap (λ (x : ℕ). run x i f) e ∙ ap (λ (x : ℕ). run k x f) (sym (add-zero i))
run_append (suc m) k i f =
    let e : suc m + k ≡ suc (m + k) = omega arith in
    let s : suc i + m ≡ i + suc m = omega arith in
    ap (λ (x : ℕ). run x i f) e ∙ ap (λ l. f i ∷ l) (run_append m k (suc i) f ∙ ap (λ (x : ℕ). run m (suc i) f ++ run k x f) s)

pub all_run : {A : Type 0} (P : A → Type 0) (m i : ℕ) (f : ℕ → A) → ((k : ℕ) → i ≤ k → k < i + m → P (f k)) → All P (run m i f)
unfolding run
all_run P zero i f h = nil
all_run P (suc m) i f h = cons (h i (omega arith) (omega arith)) (all_run P m (suc i) f (λ k l u. h k (omega arith) (omega arith)))
