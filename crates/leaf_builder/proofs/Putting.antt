-- Elements put into a list one after the other, and bytes side by side. Assumes nothing.
use Prim.Native.Nat.{ℕ, zero, suc, ◌+◌, ◌-◌, ◌≤◌}
use mathlib.Core.Path.{◌≡◌, refl, sym, ap, ◌∙◌}
use mathlib.Core.List.{List, [], ◌∷◌, ◌++◌, map, append-nil, append_assoc, map-append}
use native.Mathlib.Omega.{arith}
use native.Mathlib.Nat.{zero-add, suc-add, add-zero, add_assoc}
use lib.ListN.{length, take, drop, length-append, length-drop, length-map, take-append-drop}
use lib.Seq.{length-take-le, take-nil, take_at, drop_at, take-append_seam, drop-append-add, drop-drop}
use Rattle.std.proofs.lemmas.List.{take-map, drop-map}
use Rattle.leaf_node.specs.Build.{put}
use Rattle.leaf_node.proofs.Copying.{put_past, put_front}

-- a part of a list is the end of a front
pub take_drop : {A : Type 0} (f n : ℕ) (xs : List A) → take n (drop f xs) ≡ drop f (take (f + n) xs)
take_drop zero n xs = rw (zero-add n)
take_drop (suc f) n [] = rw (take-nil n, take-nil (suc f + n))
take_drop (suc f) n (x ∷ xs) = rw (suc-add f n) (take_drop f n xs)

pub length_put : {A : Type 0} (d : List A) (at : ℕ) (s : List A) → at + length s ≤ length d → length (put d at s) ≡ length d
unfolding put
length_put d at s h = simp (length-append, length-drop) (omega (arith, length-take-le at d (omega arith)))

-- nothing
pub put_none : {A : Type 0} (d : List A) (at : ℕ) → put d at [] ≡ d
unfolding put
put_none d at = simp (append-nil, add-zero, take-append-drop)

-- what stands there already
pub put_same : (d : List ℕ) (at : ℕ) (s : List ℕ) → take (length s) (drop at d) ≡ s → put d at s ≡ d
unfolding put
put_same d at s e =
    let t : s ++ drop (length s) (drop at d) ≡ drop at d = ap (λ l. l ++ drop (length s) (drop at d)) (sym e) ∙ take-append-drop (length s) (drop at d) in
    rw (← (drop-drop (length s) at d), append_assoc (take at d) s (drop (length s) (drop at d)), t) (take-append-drop at d)

-- what is put stands there
pub put_stands : (d : List ℕ) (at : ℕ) (s : List ℕ) → at ≤ length d → take (length s) (drop at (put d at s)) ≡ s
unfolding put
put_stands d at s h =
    let l : length (take at d) ≡ at = length-take-le at d h in
    rw (append_assoc (take at d) s (drop (at + length s) d), drop_at (take at d) (s ++ drop (at + length s) d) at l) (take-append_seam s (drop (at + length s) d))

pub put_is : (d : List ℕ) (at : ℕ) (s : List ℕ) → put d at s ≡ (take at d ++ s) ++ drop (at + length s) d
unfolding put
put_is d at s = refl

pub put_parts : (d : List ℕ) (at : ℕ) (s : List ℕ) → put d at s ≡ take at d ++ (s ++ drop (at + length s) d)
unfolding put
put_parts d at s = append_assoc (take at d) s (drop (at + length s) d)

-- what a function makes of each element
pub map_put : {A B : Type 0} (f : A → B) (xs : List A) (at : ℕ) (a : List A) → map f (put xs at a) ≡ put (map f xs) at (map f a)
unfolding put
map_put f xs at a =
    map-append f (take at xs ++ a) (drop (at + length a) xs) ∙ rw (map-append f (take at xs) a, take-map f at xs, length-map a f, drop-map f (at + length a) xs)

-- t in the place of s
pub put_over : (d : List ℕ) (at : ℕ) (s t : List ℕ) → at ≤ length d → length s ≡ length t → put (put d at s) at t ≡ put d at t
put_over d at s t h e =
    let l : length (take at d) ≡ at = length-take-le at d h in
    let r : List ℕ = drop (at + length s) d in
    rw (put_parts d at s, put_past (take at d) (s ++ r) t at 0 (omega arith), put_front s r t e, put_parts d at t, e)

-- t right behind s
pub put_put : {A : Type 0} (d : List A) (at : ℕ) (s : List A) (b : ℕ) (t : List A) → b ≡ at + length s → at ≤ length d → put (put d at s) b t ≡ put d at (s ++ t)
unfolding put
put_put {A} d at s b t e h =
    let x : List A = take at d ++ s in
    let l : length x ≡ at + length s = simp length-append (omega (arith, length-take-le at d h)) in
    let r : drop (at + length s + length t) (x ++ drop (at + length s) d) ≡ drop (at + length s + length t) d =
    rw (← l) (drop-append-add x (drop (length x) d) (length t) ∙ drop-drop (length t) (length x) d) in
    rw (e, take_at x (drop (at + length s) d) (at + length s) l, r) (simp (append_assoc, length-append, add_assoc))

-- s below t: either may be first
pub put_swap : (d : List ℕ) (a : ℕ) (s : List ℕ) (b : ℕ) (t : List ℕ) → a + length s ≤ b → a + length s ≤ length d → put (put d b t) a s ≡ put (put d a s) b t
put_swap d a s b t h k =
    let l : length (take a d) ≡ a = length-take-le a d (omega arith) in
    let y : List ℕ = drop a d in
    let ly : length (take (length s) y) ≡ length s = length-take-le (length s) y (simp length-drop (omega arith)) in
    let x : List ℕ = drop (length s) y in
    let m : ℕ = b - a - length s in
    let parts : d ≡ take a d ++ (take (length s) y ++ x) = sym (rw (take-append-drop (length s) y) (take-append-drop a d)) in
    let left : put (put d b t) a s ≡ take a d ++ (s ++ put x m t) = inner (take a d) (take (length s) y) x m parts l ly (omega arith) in
    let right : put (put d a s) b t ≡ take a d ++ (s ++ put x m t) = outer (take a d) (take (length s) y) x m parts l ly (omega arith) in
    left ∙ sym right
  where
    inner : (u v x : List ℕ) (m : ℕ) → d ≡ u ++ (v ++ x) → length u ≡ a → length v ≡ length s → b ≡ a + (length s + m) → put (put d b t) a s ≡ u ++ (s ++ put x m t)
    inner u v x m e lu lv eb =
        rw (
          e,
          put_past u (v ++ x) t b (length s + m) (omega arith),
          put_past v x t (length s + m) m (omega arith),
          put_past u (v ++ put x m t) s a 0 (omega arith),
          put_front v (put x m t) s lv,
        )

    outer : (u v x : List ℕ) (m : ℕ) → d ≡ u ++ (v ++ x) → length u ≡ a → length v ≡ length s → b ≡ a + (length s + m) → put (put d a s) b t ≡ u ++ (s ++ put x m t)
    outer u v x m e lu lv eb =
        rw (
          e,
          put_past u (v ++ x) s a 0 (omega arith),
          put_front v x s lv,
          put_past u (s ++ x) t b (length s + m) (omega arith),
          put_past s x t (length s + m) m refl,
        )
