-- The operations that entries and store of a sound work stand for. Assumes nothing.
use mathlib.Core.Path.{◌≡◌, refl, sym, ap}
use mathlib.Core.Bool.{Bool, true, false, ◌&&◌, ◌||◌, true≢false, false≢true}
use mathlib.Core.List.{List, ◌∷◌, map}
use Prim.Native.Nat.{ℕ, ◌+◌, ◌-◌, ◌≤◌, ◌<◌}
use native.Mathlib.Omega.{arith}
use native.Mathlib.Nat.{add-zero}
use lib.Dec.{eqb, leb, ltb}
use lib.ListN.{length, take, drop, replicate, length-drop}
use lib.Seq.{take-add, drop-drop, length-take-le}
use borrow.Author.Tests.{eqb-true, ltb-true, leb-true}
use Rattle.leaf_node.specs.Page.{values_size}
use Rattle.leaf_node.specs.Fits.{All, nil, cons}
use Rattle.leaf_model.specs.Work.{zero_key}
use Rattle.leaf_model.proofs.Tests.{and_left, and_right}
use Rattle.leaf_work.specs.declared.Entry.{Entry}
use Rattle.leaf_work.specs.Tests.{same_bytes, is_zero, is_set, bit}
use Rattle.leaf_work.specs.Lent.{blank, insert_at, chunk_of, an_insert}
use Rattle.leaf_work.specs.Sound.{is_flag, is_blank, is_insert, lies_in_passed_part, is_chunk, is_operation, placed, some_insert}
use Rattle.leaf_work.proofs.Tests.{same_bytes_are_equal, set_bit, bit_of}
use Rattle.leaf_work.proofs.Operations.{Op, Put, Keep, stored_bytes, entries_of, Within, some_put}

-- the operation of an entry
unfoldable pub op_of : List ℕ → Entry → Op
op_of store e = elim (eqb e.kind 1) [
  | true ↦ Put (record { key = e.key; value = take (e.to - e.from) (drop e.from store); flag = is_set e.flag })
  | false ↦ Keep e.from e.to
]

abbrev pub ops_of : List ℕ → List Entry → List Op
ops_of store es = map (op_of store) es

-- an entry that is an operation, by its kind
pub data Shape (low : ℕ) (p : List ℕ) : Entry → Type 0 where
  insert : (from to : ℕ) (key : List ℕ) (flag : Bool) → from ≤ to → Shape low p (insert_at from to key (bit flag))
  keep : (from to : ℕ) → from < to → to ≤ low → Shape low p (chunk_of from to (values_size p from to))

shape_insert : (low : ℕ) (p : List ℕ) (e : Entry) → is_insert e ≡ true → Shape low p e
shape_insert low p e h =
    let h₁ = and_right (an_insert e) (leb e.from e.to && (is_zero e.sum && is_flag e.flag)) h in
    let h₂ = and_right (leb e.from e.to) (is_zero e.sum && is_flag e.flag) h₁ in
    let k : e.kind ≡ 1 = eqb-true _ _ (and_left (an_insert e) _ h) in
    let o : e.from ≤ e.to = leb-true _ _ (and_left (leb e.from e.to) _ h₁) in
    let s : e.sum ≡ 0 = eqb-true _ _ (and_left (is_zero e.sum) _ h₂) in
    let f : e.flag ≡ bit (is_set e.flag) = bit_of e.flag (leb-true _ _ (and_right (is_zero e.sum) (is_flag e.flag) h₂)) in
    let q : e ≡ insert_at e.from e.to e.key (bit (is_set e.flag)) = λ j. record { kind = k j; flag = f j; from = e.from; to = e.to; sum = s j; key = e.key } in
    rw q (insert e.from e.to e.key (is_set e.flag) o)

shape_chunk : (low : ℕ) (p : List ℕ) (e : Entry) → is_chunk low p e ≡ true → Shape low p e
shape_chunk low p e h =
    let sum = eqb e.sum (values_size p e.from e.to) in
    let h₁ = and_right (eqb e.kind 2) (lies_in_passed_part low e && (sum && (same_bytes e.key zero_key && is_zero e.flag))) h in
    let h₂ = and_right (lies_in_passed_part low e) (sum && (same_bytes e.key zero_key && is_zero e.flag)) h₁ in
    let h₃ = and_right sum (same_bytes e.key zero_key && is_zero e.flag) h₂ in
    let lies = and_left (lies_in_passed_part low e) _ h₁ in
    let k : e.kind ≡ 2 = eqb-true _ _ (and_left (eqb e.kind 2) _ h) in
    let l : e.from < e.to = ltb-true _ _ (and_left (ltb e.from e.to) (leb e.to low) lies) in
    let m : e.to ≤ low = leb-true _ _ (and_right (ltb e.from e.to) (leb e.to low) lies) in
    let s : e.sum ≡ values_size p e.from e.to = eqb-true _ _ (and_left sum _ h₂) in
    let y : e.key ≡ zero_key = same_bytes_are_equal _ _ (and_left (same_bytes e.key zero_key) _ h₃) in
    let f : e.flag ≡ 0 = eqb-true _ _ (and_right (same_bytes e.key zero_key) (is_zero e.flag) h₃) in
    let q : e ≡ chunk_of e.from e.to (values_size p e.from e.to) = λ j. record { kind = k j; flag = f j; from = e.from; to = e.to; sum = s j; key = y j } in
    rw q (keep e.from e.to l m)

pub shape : (low : ℕ) (p : List ℕ) (e : Entry) → is_operation low p e ≡ true → Shape low p e
shape low p e h = go (is_insert e) refl
  where
    right : (a b : Bool) → a ≡ false → (a || b) ≡ true → b ≡ true
    right true b x y = absurd (true≢false x)
    right false b x y = y

    go : (b : Bool) → is_insert e ≡ b → Shape low p e
    go true f = shape_insert low p e f
    go false f = shape_chunk low p e (right (is_insert e) (is_chunk low p e) f h)

-- values stand one behind the other
pub placed_head : (end at from to : ℕ) (key : List ℕ) (flag : ℕ) (es : List Entry) → placed end at (insert_at from to key flag ∷ es) ≡ true
    → (from ≡ at) × (placed end to es ≡ true)
placed_head end at from to key flag es h = go (eqb from at) refl h
  where
    go : (b : Bool) → eqb from at ≡ b → ◌≡◌ {A = Bool} (elim b [ true ↦ placed end to es | false ↦ false ]) true → (from ≡ at) × (placed end to es ≡ true)
    go true e h = (eqb-true from at e, h)
    go false e h = absurd (false≢true h)

pub placed_upto : {low : ℕ} {p : List ℕ} (end at : ℕ) {es : List Entry} → All (Shape low p) es → placed end at es ≡ true → at ≤ end
placed_upto end at nil h = omega (arith, eqb-true at end h)
placed_upto end at (cons {xs = es} (insert from to key flag o) s) h =
    let d = placed_head end at from to key (bit flag) es h in
    omega (arith, d.0, placed_upto end to s d.1)
placed_upto end at (cons (keep from to l m) s) h = placed_upto end at s h

module _ (low : ℕ) (store p : List ℕ) (end : ℕ) (fits : end ≤ length store) where
  pub value_long : (from to : ℕ) → from ≤ to → to ≤ end → length (take (to - from) (drop from store)) ≡ to - from
  value_long from to o h = length-take-le (to - from) (drop from store) (omega (arith, length-drop from store))

  pub decoded_entries_are_the_entries : (at : ℕ) {es : List Entry} → All (Shape low p) es → placed end at es ≡ true → entries_of p at (ops_of store es) ≡ es
  unfolding op_of
  decoded_entries_are_the_entries at nil h = refl
  decoded_entries_are_the_entries at (cons {xs = es} (insert from to key flag o) s) h =
      let d = placed_head end at from to key (bit flag) es h in
      let a : at ≡ from = sym d.0 in
      let n : at + length (take (to - from) (drop from store)) ≡ to = omega (arith, d.0, value_long from to o (placed_upto end to s d.1)) in
      let f : bit (is_set (bit flag)) ≡ bit flag = ap bit (set_bit flag) in
      let ih : entries_of p to (ops_of store es) ≡ es = decoded_entries_are_the_entries to s d.1 in
      rw n (λ j. insert_at (a j) to key (f j) ∷ ih j)
  decoded_entries_are_the_entries at (cons {xs = es} (keep from to l m) s) h =
      let ih : entries_of p at (ops_of store es) ≡ es = decoded_entries_are_the_entries at s h in
      rw (add-zero at) (λ j. chunk_of from to (values_size p from to) ∷ ih j)

  pub decoded_bytes_are_the_stored : (at : ℕ) {es : List Entry} → All (Shape low p) es → placed end at es ≡ true → stored_bytes (ops_of store es) ≡ take (end - at) (drop at store)
  unfolding op_of
  decoded_bytes_are_the_stored at nil h = let z : end - at ≡ 0 = omega (arith, eqb-true at end h) in rw z
  decoded_bytes_are_the_stored at (cons {xs = es} (insert from to key flag o) s) h =
      let d = placed_head end at from to key (bit flag) es h in
      let a : from ≡ at = d.0 in
      let y : at + (to - at) ≡ to = omega arith in
      let z : end - at ≡ (to - at) + (end - to) = omega (arith, placed_upto end to s d.1) in
      rw (decoded_bytes_are_the_stored to s d.1, a, z, take-add (to - at) (end - to) (drop at store), drop-drop (to - at) at store, y)
  decoded_bytes_are_the_stored at (cons (keep from to l m) s) h = decoded_bytes_are_the_stored at s h

  pub decoded_chunks_are_passed : {es : List Entry} → All (Shape low p) es → All (Within low) (ops_of store es)
  unfolding op_of
  decoded_chunks_are_passed nil = nil
  decoded_chunks_are_passed (cons (insert from to key flag o) s) = cons tt (decoded_chunks_are_passed s)
  decoded_chunks_are_passed (cons (keep from to l m) s) = cons {x = Keep from to} (l, m) (decoded_chunks_are_passed s)

  pub decoded_some_put : {es : List Entry} → All (Shape low p) es → some_insert es ≡ true → some_put (ops_of store es) ≡ true
  unfolding op_of
  decoded_some_put nil h = h
  decoded_some_put (cons (insert from to key flag o) s) h = refl
  decoded_some_put (cons (keep from to l m) s) h = decoded_some_put s h

-- blank entries, zero bytes
blank_is : (e : Entry) → is_blank e ≡ true → e ≡ blank
blank_is e h =
    let h₁ = and_right (is_zero e.kind) (is_zero e.from && (is_zero e.to && (is_zero e.sum && (same_bytes e.key zero_key && is_zero e.flag)))) h in
    let h₂ = and_right (is_zero e.from) (is_zero e.to && (is_zero e.sum && (same_bytes e.key zero_key && is_zero e.flag))) h₁ in
    let h₃ = and_right (is_zero e.to) (is_zero e.sum && (same_bytes e.key zero_key && is_zero e.flag)) h₂ in
    let h₄ = and_right (is_zero e.sum) (same_bytes e.key zero_key && is_zero e.flag) h₃ in
    let a : e.kind ≡ 0 = eqb-true _ _ (and_left (is_zero e.kind) _ h) in
    let b : e.from ≡ 0 = eqb-true _ _ (and_left (is_zero e.from) _ h₁) in
    let c : e.to ≡ 0 = eqb-true _ _ (and_left (is_zero e.to) _ h₂) in
    let d : e.sum ≡ 0 = eqb-true _ _ (and_left (is_zero e.sum) _ h₃) in
    let y : e.key ≡ zero_key = same_bytes_are_equal _ _ (and_left (same_bytes e.key zero_key) _ h₄) in
    let f : e.flag ≡ 0 = eqb-true _ _ (and_right (same_bytes e.key zero_key) (is_zero e.flag) h₄) in
    λ j. record { kind = a j; flag = f j; from = b j; to = c j; sum = d j; key = y j }

pub all_blank : {es : List Entry} → All (λ e. is_blank e ≡ true) es → es ≡ replicate (length es) blank
all_blank nil = refl
all_blank (cons {x} {xs} h hs) = let a : x ≡ blank = blank_is x h in let b : xs ≡ replicate (length xs) blank = all_blank hs in λ j. a j ∷ b j

pub all_zero_lem : {xs : List ℕ} → All (λ x. is_zero x ≡ true) xs → xs ≡ replicate (length xs) 0
all_zero_lem nil = refl
all_zero_lem (cons {x} {xs} h hs) = let a : x ≡ 0 = eqb-true x 0 h in let b : xs ≡ replicate (length xs) 0 = all_zero_lem hs in λ j. a j ∷ b j
