-- Records and pages: a built page has just its records and is good, and a good page's records build it again, with zeros in the gap.
-- Assumes nothing.
use Prim.Native.Nat.{ℕ, zero, suc, ◌+◌, ◌-◌, ◌*◌, ◌/◌, ◌%◌, ◌≤◌, ◌<◌}
use mathlib.Core.Path.{◌≡◌, refl, sym, ap, ◌∙◌}
use mathlib.Core.Logic.{⊎_elim}
use mathlib.Core.Bool.{Bool, true, false}
use mathlib.Core.List.{List, [], ◌∷◌, ◌++◌, append_assoc}
use native.Mathlib.Omega.{arith}
use native.Mathlib.Decide.{dec_le}
use native.Mathlib.Nat.{zero-add, add-zero, add_assoc, sub-zero, eq-or-lt_of_le}
use native.Mathlib.Numerals.{add-one}
use lib.Dec.{leb}
use lib.ListN.{length, get_or, take, drop, length-append, length-drop}
use lib.Seq.{drop-cons, take-add, take_at, drop_at, take_all, get_or-append-add, get_or-drop, drop-drop}
use borrow.Author.Tests.{le-leb, lt-leb}
use Rattle.bit_ops.specs.Key.{Bytes, num}
use Rattle.bit_ops.specs.Steps.{zeros}
use Rattle.leaf_node.specs.Limits.{PageSize, body_limit, record_limit, value_limit}
use Rattle.leaf_node.specs.Record.{Record, body, values, total}
use Rattle.leaf_node.specs.Page.{word, count, pointer, key_at, number_at, offset_at, flag_at, start, length_at, value_at, record_at, run, records_between, records, values_size, body_size}
use Rattle.leaf_node.specs.Good.{OffsetsRight, ValuesFit, KeysRise, Good}
use Rattle.leaf_node.specs.Build.{le16, tagged, pointers, build, gap_cleared}
use Rattle.leaf_node.specs.Steps.{Laid}
use Rattle.leaf_node.specs.Fits.{All, cons, Keyed, Fitting, Rising, rise[], rise∷, Fits, Proper}
use Rattle.leaf_node.proofs.Searches.{rise_on}
use Rattle.leaf_node.proofs.Reading.{start_in, start_end, pointers_end_before_values, good_pages_are_laid}
use Rattle.leaf_node.proofs.Lengths.{length_le16, length_values, length_pointers, length_zeros, length_run, all_run}
pub use Rattle.leaf_node.proofs.Lengths.{body_is_pointers_and_values}
use Rattle.leaf_node.proofs.Laying.{starts_between, start_inside, value_length_lem, keys_have_32_bytes, values_of_a_range_are_one_part, values_size_is_a_difference, range_length}

all_head : {A : Type 0} {P : A → Type 0} {x : A} {xs : List A} → All P (x ∷ xs) → P x
all_head (cons p h) = p

all_tail : {A : Type 0} {P : A → Type 0} {x : A} {xs : List A} → All P (x ∷ xs) → All P xs
all_tail (cons p h) = h

-- ---- bodies

-- "Body size is 34 times n plus all value bytes": the body of the page's records
pub body_size_is_the_body_of_the_records : (p : List ℕ) → body_size p ≡ body (records p)
unfolding body_size values_size records records_between
body_size_is_the_body_of_the_records p =
    omega (arith, body_is_pointers_and_values (run (count p - 0) 0 (record_at p)), length_run (count p - 0) 0 (record_at p))

-- ---- a pointer's number and what is read of it

same_record : (a b : Record) → a.key ≡ b.key → a.value ≡ b.value → a.flag ≡ b.flag → a ≡ b
same_record a b p q r = λ i. record { key = p i; value = q i; flag = r i }

-- a number that stands in a list behind m bytes
word_of : (p : List ℕ) (n : ℕ) (m : List ℕ) (w : ℕ) (t : List ℕ) → drop n p ≡ m ++ (le16 w ++ t) → word p (n + length m) ≡ w
unfolding word le16
word_of p n m w t e =
    let at : (k : ℕ) → get_or p (n + (length m + k)) 0 ≡ get_or (le16 w ++ t) k 0 =
    λ k. sym (get_or-drop n p (length m + k) 0) ∙ ap (λ (l : List ℕ). get_or l (length m + k) 0) e ∙ get_or-append-add m (le16 w ++ t) k 0 in
    let a : get_or p (n + length m) 0 ≡ w % 256 = rw add-zero at (at 0) in
    let b : get_or p (n + length m + 1) 0 ≡ w / 256 = rw (add_assoc n (length m) 1) (at 1) in
    omega arith

flag_tagged : (at : ℕ) (f : Bool) → at < 32768 → leb 32768 (tagged at f) ≡ f
unfolding tagged
flag_tagged at true h = le-leb 32768 (at + 32768) (omega arith)
flag_tagged at false h = lt-leb 32768 (at + 0) (omega arith)

offset_tagged : (at : ℕ) (f : Bool) → at < 32768 → tagged at f % 32768 ≡ at
unfolding tagged
offset_tagged at true h = omega arith
offset_tagged at false h = omega arith

-- ---- reading what was built: the page p from record i on has the pointers of rs, whose values begin at `at` and end the page

module _ (p : List ℕ) where
  number_next : (i at : ℕ) (r : Record) (rs : List Record) (t : List ℕ) → drop (pointer i) p ≡ pointers at (r ∷ rs) ++ t → length r.key ≡ 32
      → number_at p i ≡ tagged at r.flag
  unfolding pointers number_at
  number_next i at r rs t e l =
      rw (← l) (word_of p (pointer i) r.key (tagged at r.flag) (pointers (at + length r.value) rs ++ t) (e ∙ simp append_assoc))

  offset_next : (i at : ℕ) (r : Record) (rs : List Record) (t : List ℕ) → drop (pointer i) p ≡ pointers at (r ∷ rs) ++ t → length r.key ≡ 32 → at < 32768
      → offset_at p i ≡ at
  unfolding offset_at
  offset_next i at r rs t e l h = rw (number_next i at r rs t e l) (offset_tagged at r.flag h)

  start_next : (i at : ℕ) (rs : List Record) (t : List ℕ) → drop (pointer i) p ≡ pointers at rs ++ t → All Keyed rs → count p ≡ i + length rs → length p ≡ at + total rs
      → at + total rs < 32768 → start p i ≡ at
  unfolding total
  start_next i at [] t e l n s b = sym (start_end p (count p) i refl (omega arith)) ∙ omega arith
  start_next i at (r ∷ rs) t e l n s b =
      sym (start_in p (count p) i at refl (omega arith) (sym (offset_next i at r rs t e (all_head l) (omega arith))))

  pointers_next : (i at : ℕ) (r : Record) (rs : List Record) (t : List ℕ) → drop (pointer i) p ≡ pointers at (r ∷ rs) ++ t → length r.key ≡ 32
      → drop (pointer (suc i)) p ≡ pointers (at + length r.value) rs ++ t
  unfolding pointers
  pointers_next i at r rs t e l =
      let w = le16 (tagged at r.flag) in
      let lw = length_le16 (tagged at r.flag) in
      let n : 34 * suc i + 2 ≡ 34 * i + 2 + 34 = omega arith in
      let q : pointers at (r ∷ rs) ++ t ≡ (r.key ++ w) ++ (pointers (at + length r.value) rs ++ t) = simp append_assoc in
      let m : length (r.key ++ w) ≡ 34 = simp length-append (omega arith) in
      rw (n, ← (drop-drop 34 (34 * i + 2) p), e, q) (drop_at (r.key ++ w) (pointers (at + length r.value) rs ++ t) 34 m)

  values_next : (at : ℕ) (v t : List ℕ) → drop at p ≡ v ++ t → drop (at + length v) p ≡ t
  values_next at v t e = rw (← (drop-drop (length v) at p), e) (drop_at v t (length v) refl)

  record_next : (i at : ℕ) (r : Record) (rs : List Record) (t v : List ℕ) → drop (pointer i) p ≡ pointers at (r ∷ rs) ++ t → length r.key ≡ 32
      → start p i ≡ at → start p (i + 1) ≡ at + length r.value → at < 32768 → drop at p ≡ r.value ++ v → record_at p i ≡ r
  unfolding pointers record_at key_at value_at length_at flag_at
  record_next i at r rs t v e l s₀ s₁ h d =
      let m : at + length r.value - at ≡ length r.value = omega arith in
      same_record (record_at p i) r
      (rw (e, append_assoc) (take_at r.key _ 32 l))
      (rw (s₁, s₀, m, d) (take_at r.value v (length r.value) refl))
      (rw (number_next i at r rs t e l) (flag_tagged at r.flag h))

  module _ (t : List ℕ) where
    second_start : (i at : ℕ) (r : Record) (rs : List Record) → drop (pointer i) p ≡ pointers at (r ∷ rs) ++ t → All Keyed (r ∷ rs) → count p ≡ i + length (r ∷ rs)
        → length p ≡ at + total (r ∷ rs) → at + total (r ∷ rs) < 32768 → start p (i + 1) ≡ at + length r.value
    unfolding total
    second_start i at r rs e l n s b =
        rw (add-one i)
        (start_next (suc i) (at + length r.value) rs t (pointers_next i at r rs t e (all_head l)) (all_tail l) (omega arith) (omega arith) (omega arith))

    decode : (i at : ℕ) (rs : List Record) → drop (pointer i) p ≡ pointers at rs ++ t → All Keyed rs → count p ≡ i + length rs → length p ≡ at + total rs
        → at + total rs < 32768 → drop at p ≡ values rs → run (length rs) i (record_at p) ≡ rs
    unfolding total run values pointers
    decode i at [] e l n s b v = refl
    decode i at (r ∷ rs) e l n s b v =
        let rest = decode (suc i) (at + length r.value) rs (pointers_next i at r rs t e (all_head l)) (all_tail l) (omega arith) (omega arith) (omega arith)
        (values_next at r.value (values rs) v) in
        let here = record_next i at r rs t (values rs) e (all_head l) (start_next i at (r ∷ rs) t e l n s b) (second_start i at r rs e l n s b) (omega arith) v in
        rw (here, rest)

    steps_next : (i at : ℕ) (rs : List Record) → drop (pointer i) p ≡ pointers at rs ++ t → All Keyed rs → count p ≡ i + length rs → length p ≡ at + total rs
        → at + total rs < 32768 → (k : ℕ) → i ≤ k → k < count p → start p k ≤ start p (k + 1)
    unfolding total
    steps_next i at [] e l n s b k h m = absurd (omega arith)
    steps_next i at (r ∷ rs) e l n s b k h m =
        let rest = steps_next (suc i) (at + length r.value) rs (pointers_next i at r rs t e (all_head l)) (all_tail l) (omega arith) (omega arith) (omega arith) k in
        ⊎_elim (λ (q : i ≡ k).
        let u : start p k ≡ at = rw (← q) (start_next i at (r ∷ rs) t e l n s b) in
        let v : start p (k + 1) ≡ at + length r.value = rw (← q) (second_start i at r rs e l n s b) in
        omega arith) (λ (q : i < k). rest q m) (eq-or-lt_of_le {n = i} {m = k} h)

-- the page of rs; `at` is where their values begin, and k the gap
module _ (size : ℕ) (rs : List Record) (l : All Keyed rs) (at k : ℕ) (e : size ≡ pointer (length rs) + k + total rs) (q : at ≡ pointer (length rs) + k) where
  page : List ℕ
  page = le16 (length rs) ++ (pointers at rs ++ (zeros k ++ values rs))

  page_count_lem : count page ≡ length rs
  unfolding page count
  page_count_lem = word_of page 0 [] (length rs) (pointers at rs ++ (zeros k ++ values rs)) refl

  page_long : length page ≡ at + total rs
  unfolding page
  page_long =
      let a = length_le16 (length rs) in
      let b = length_pointers at l in
      let c = length_zeros k in
      let d = length_values rs in
      simp length-append (omega arith)

  page_values : drop at page ≡ values rs
  unfolding page
  page_values =
      let a = length_le16 (length rs) in
      let b = length_pointers at l in
      let c = length_zeros k in
      let h = le16 (length rs) ++ (pointers at rs ++ zeros k) in
      let m : length h ≡ at = simp length-append (omega arith) in
      let r : page ≡ h ++ values rs = simp append_assoc in
      rw r (drop_at h (values rs) at m)

  module _ (b : size < 32768) where
    page_records : records page ≡ rs
    unfolding records records_between page le16
    page_records =
        rw (page_count_lem, sub-zero) (decode page (zeros k ++ values rs) 0 at rs refl l (page_count_lem ∙ sym (zero-add (length rs))) page_long (omega arith) page_values)

    page_first : start page 0 ≡ at
    unfolding page le16
    page_first = start_next page 0 at rs (zeros k ++ values rs) refl l (page_count_lem ∙ sym (zero-add (length rs))) page_long (omega arith)

    page_laid : Laid page (length rs)
    unfolding page le16
    page_laid =
        record {
          counted = sym page_count_lem;
          inside = omega (arith, page_long);
          steps = λ i h. steps_next page (zeros k ++ values rs) 0 at rs refl l (page_count_lem ∙ sym (zero-add (length rs))) page_long (omega arith) i (omega arith)
              (omega (arith, page_count_lem));
        }

-- ---- records that fit

module _ (size : ℕ) (rs : List Record) (f : Fits size rs) where
  fit_room : pointer (length rs) + (size - total rs - pointer (length rs)) + total rs ≡ size
  unfolding body_limit
  fit_room = omega (arith, f.room, f.sized.least, body_is_pointers_and_values rs)

  fit_gap : size - total rs ≡ pointer (length rs) + (size - total rs - pointer (length rs))
  unfolding body_limit
  fit_gap = omega (arith, f.room, f.sized.least, body_is_pointers_and_values rs)

  pub a_built_page_has_its_records : records (build size rs) ≡ rs
  unfolding build page
  a_built_page_has_its_records =
      page_records size rs f.keys (size - total rs) (size - total rs - pointer (length rs)) (sym fit_room) fit_gap (omega (arith, f.sized.most))

  built_count : count (build size rs) ≡ length rs
  unfolding build page
  built_count = page_count_lem size rs f.keys (size - total rs) (size - total rs - pointer (length rs)) (sym fit_room) fit_gap

  pub a_built_page_is_full_length : length (build size rs) ≡ size
  unfolding build page
  a_built_page_is_full_length =
      page_long size rs f.keys (size - total rs) (size - total rs - pointer (length rs)) (sym fit_room) fit_gap ∙ omega (arith, fit_room, fit_gap)

  built_first : start (build size rs) 0 ≡ size - total rs
  unfolding build page
  built_first = page_first size rs f.keys (size - total rs) (size - total rs - pointer (length rs)) (sym fit_room) fit_gap (omega (arith, f.sized.most))

  built_laid : Laid (build size rs) (length rs)
  unfolding build page
  built_laid = page_laid size rs f.keys (size - total rs) (size - total rs - pointer (length rs)) (sym fit_room) fit_gap (omega (arith, f.sized.most))

-- what holds of every record of a page holds of each
all_at : {A : Type 0} {P : A → Type 0} (m i : ℕ) (f : ℕ → A) → All P (run m i f) → (k : ℕ) → i ≤ k → k < i + m → P (f k)
unfolding run
all_at zero i f a k h l = absurd (omega arith)
all_at {P = P} (suc m) i f a k h l =
    ⊎_elim (λ (q : i ≡ k). rw (← q) (all_head a)) (λ (q : i < k). all_at m (suc i) f (all_tail a) k q (omega arith)) (eq-or-lt_of_le {n = i} {m = k} h)

rise_head : {r s : Record} {rs : List Record} → Rising (r ∷ s ∷ rs) → num r.key < num s.key
rise_head (rise∷ a h) = all_head a

rise_tail : {r : Record} {rs : List Record} → Rising (r ∷ rs) → Rising rs
rise_tail (rise∷ a h) = h

rise_at : (m i : ℕ) (f : ℕ → Record) → Rising (run m i f) → (k : ℕ) → i ≤ k → k + 1 < i + m → num (f k).key < num (f (k + 1)).key
unfolding run
rise_at zero i f a k h l = absurd (omega arith)
rise_at (suc zero) i f a k h l = absurd (omega arith)
rise_at (suc (suc m)) i f a k h l =
    ⊎_elim (λ (q : i ≡ k). rw (add-one k, ← q) (rise_head a)) (λ (q : i < k). rise_at (suc m) (suc i) f (rise_tail a) k q (omega arith))
    (eq-or-lt_of_le {n = i} {m = k} h)

-- a page whose values are laid and whose records are proper is good
module _ (size : ℕ) (p : List ℕ) (l : Laid p (count p)) (sized : length p ≡ size) (few : count p ≤ record_limit size) (first : pointer (count p) ≤ start p 0)
    (fitting : All (Fitting size) (records p)) (rise : Rising (records p)) where
  offset_is : (i : ℕ) → i < count p → offset_at p i ≡ start p i
  offset_is i h = start_in p (count p) i (offset_at p i) refl h refl

  offsets : OffsetsRight p
  offsets =
      record {
        never_fall = λ i h. omega (arith, offset_is i (omega arith), offset_is (i + 1) h, l.steps i (omega arith));
        first = λ h. omega (arith, offset_is 0 h, first);
        none_passes = λ i h. omega (arith, offset_is i h, start_inside p (count p) l i (omega arith));
      }

  fit : ValuesFit size p
  unfolding records records_between
  fit i h =
      let a : length (record_at p i).value ≤ value_limit size = all_at (count p - 0) 0 (record_at p) fitting i (omega arith) (omega arith) in
      omega (arith, value_length_lem p (count p) l i h)

  keys : KeysRise p
  unfolding records records_between record_at
  keys i h = rise_at (count p - 0) 0 (record_at p) rise i (omega arith) (omega arith)

  good : Good size p
  good = record { sized = sized; few = few; offsets = offsets; values = fit; keys = keys }

pub a_built_page_is_good : (size : ℕ) (rs : List Record) → Proper size rs → Good size (build size rs)
unfolding body_limit record_limit
a_built_page_is_good size rs w =
    let f = w.fits in
    let c = built_count size rs f in
    let r = a_built_page_has_its_records size rs f in
    good size (build size rs) (rw c (built_laid size rs f)) (a_built_page_is_full_length size rs f)
    (rw c (omega (arith, f.room, body_is_pointers_and_values rs))) (rw (c, built_first size rs f) (omega (arith, fit_gap size rs f))) (rw r w.fitting) (rw r w.rise)

-- ---- the other way: what the records of a page build

tagged_number : (w : ℕ) → w < 65536 → tagged (w % 32768) (leb 32768 w) ≡ w
unfolding tagged
tagged_number w h = elim (dec_le 32768 w) [
  | yes k ↦ rw (le-leb 32768 w k) (omega arith)
  | no k ↦ let l : w < 32768 = omega arith in rw (lt-leb 32768 w l) (omega arith)
]

module _ (p : List ℕ) (n : ℕ) (l : Laid p n) (bytes : Bytes p) where
  two : (a : ℕ) → a + 1 < length p → le16 (word p a) ≡ take 2 (drop a p)
  unfolding le16 word
  two a h =
      let x = bytes a in
      let y = bytes (a + 1) in
      let q : (get_or p a 0 + 256 * get_or p (a + 1) 0) % 256 ≡ get_or p a 0 = omega arith in
      let r : (get_or p a 0 + 256 * get_or p (a + 1) 0) / 256 ≡ get_or p (a + 1) 0 = omega arith in
      let h₀ : a < length p = omega arith in
      let h₁ : suc a < length p = omega arith in
      rw (q, r, drop-cons p a 0 h₀, drop-cons p (suc a) 0 h₁, add-one a)

  word_below : (a : ℕ) → word p a < 65536
  unfolding word
  word_below a = let x = bytes a in let y = bytes (a + 1) in omega arith

  number_run : (i : ℕ) → i < n → le16 (tagged (start p i) (flag_at p i)) ≡ take 2 (drop (pointer i + 32) p)
  unfolding flag_at offset_at number_at
  number_run i h =
      let w = word p (pointer i + 32) in
      let b : w < 65536 = word_below (pointer i + 32) in
      rw (← (start_in p n i (w % 32768) l.counted h refl), tagged_number w b) (two (pointer i + 32) (omega (arith, l.inside)))

  value_end : (i : ℕ) → i < n → start p i + length (record_at p i).value ≡ start p (suc i)
  unfolding length_at
  value_end i h =
      let t : start p (i + 1) ≡ start p (suc i) = ap (start p) (add-one i) in
      omega (arith, value_length_lem p n l i h, l.steps i h)

  pointers_run : (m i : ℕ) → i + m ≤ n → pointers (start p i) (run m i (record_at p)) ≡ take (34 * m) (drop (pointer i) p)
  unfolding pointers run record_at key_at
  pointers_run zero i e = refl
  pointers_run (suc m) i e =
      let a : ℕ = 34 * i + 2 in
      let q : 34 * suc m ≡ 32 + (2 + 34 * m) = omega arith in
      let r : 34 * suc i + 2 ≡ a + 32 + 2 = omega arith in
      rw (
        value_end i (omega arith),
        pointers_run m (suc i) (omega arith),
        r,
        q,
        take-add 32 (2 + 34 * m) (drop a p),
        take-add 2 (34 * m) (drop 32 (drop a p)),
        drop-drop 32 a p,
        drop-drop 2 (a + 32) p,
        number_run i (omega arith),
      )

  -- for values that stay where they are
  pub pointers_of_a_range_are_one_part : (from to : ℕ) → from ≤ to → to ≤ n → pointers (start p from) (records_between p from to) ≡ take (34 * (to - from)) (drop (pointer from) p)
  unfolding records_between
  pointers_of_a_range_are_one_part from to h k = pointers_run (to - from) from (omega arith)

  count_two : le16 (count p) ≡ take 2 p
  unfolding count
  count_two = two 0 (omega (arith, l.inside))

  head : (x : List ℕ) → le16 (count p) ++ (take (34 * count p) (drop 2 p) ++ x) ≡ take (34 * count p + 2) p ++ x
  head x =
      let n : 34 * count p + 2 ≡ 2 + 34 * count p = omega arith in
      rw (n, take-add 2 (34 * count p) p, count_two) (sym (append_assoc (take 2 p) (take (34 * count p) (drop 2 p)) x))

-- all values of a page are its rest from the first start on
module _ (p : List ℕ) (l : Laid p (count p)) where
  values_all : values (records p) ≡ drop (start p 0) p
  unfolding records
  values_all =
      let e : length p ≡ start p (count p) = start_end p (count p) (count p) refl (omega arith) in
      values_of_a_range_are_one_part p (count p) l 0 (count p) (omega arith) (omega arith)
      ∙ rw (← e) (take_all (length p - start p 0) (drop (start p 0) p) (simp length-drop (omega arith)))

  total_all : total (records p) ≡ length p - start p 0
  total_all = sym (length_values (records p)) ∙ ap length values_all ∙ length-drop (start p 0) p

  count_all : length (records p) ≡ count p
  unfolding records
  count_all = range_length p (count p) l 0 (count p) (omega arith) (omega arith) ∙ sub-zero (count p)

  pointers_all : Bytes p → pointers (start p 0) (records p) ≡ take (34 * count p) (drop 2 p)
  unfolding records records_between
  pointers_all bytes = rw sub-zero (pointers_run p (count p) l bytes (count p) 0 (omega arith))

  build_laid : Bytes p → pointer (count p) ≤ start p 0 → build (length p) (records p) ≡ gap_cleared p
  unfolding build gap_cleared
  build_laid bytes h =
      let le = start_inside p (count p) l 0 (omega arith) in
      let u : length p - (length p - start p 0) ≡ start p 0 = omega arith in
      rw (count_all, total_all, u, values_all, pointers_all bytes) (head p (count p) l bytes (zeros (start p 0 - (34 * count p + 2)) ++ drop (start p 0) p))

-- ---- good pages

module _ (size : ℕ) (p : List ℕ) (s : PageSize size) (g : Good size p) where
  pub a_good_page_builds_itself_with_a_cleared_gap : Bytes p → build size (records p) ≡ gap_cleared p
  a_good_page_builds_itself_with_a_cleared_gap bytes =
      rw (← g.sized) (build_laid p (good_pages_are_laid size p s g) bytes (pointers_end_before_values size p s g))

  pub values_size_of_a_good_page_is_a_difference : (from to : ℕ) → from ≤ to → to ≤ count p → values_size p from to ≡ start p to - start p from
  values_size_of_a_good_page_is_a_difference from to = values_size_is_a_difference p (count p) (good_pages_are_laid size p s g) from to

  fitting_run : (m i : ℕ) → i + m ≤ count p → All (Fitting size) (run m i (record_at p))
  fitting_run m i e =
      all_run (Fitting size) m i (record_at p) (λ j a b. omega (arith, value_length_lem p (count p) (good_pages_are_laid size p s g) j (omega arith), g.values j (omega arith)))

  pub rise_run : (m i : ℕ) → i + m ≤ count p → Rising (run m i (record_at p))
  unfolding run record_at
  rise_run zero i e = rise[]
  rise_run (suc m) i e =
      rise∷ (all_run (λ y. num (key_at p i) < num y.key) m (suc i) (record_at p) (λ j a b. rise_on p g.keys i j a (omega arith))) (rise_run m (suc i) (omega arith))

  -- a range of records fits into a page again
  module _ (from to : ℕ) (h : from ≤ to) (k : to ≤ count p) where
    pub records_of_a_good_page_fit : Fits size (records_between p from to)
    unfolding body_limit values_size
    records_of_a_good_page_fit =
        let l = good_pages_are_laid size p s g in
        record {
          sized = s;
          keys = keys_have_32_bytes p (count p) l from to h k;
          room = omega (
            arith,
            body_is_pointers_and_values (records_between p from to),
            range_length p (count p) l from to h k,
            values_size_is_a_difference p (count p) l from to h k,
            starts_between p (count p) l 0 from (omega arith) (omega arith),
            start_inside p (count p) l to k,
            pointers_end_before_values size p s g,
            g.sized,
          );
        }

    pub records_of_a_good_page_are_proper : Proper size (records_between p from to)
    unfolding records_between
    records_of_a_good_page_are_proper =
        record {
          fits = records_of_a_good_page_fit;
          fitting = fitting_run (to - from) from (omega arith);
          rise = rise_run (to - from) from (omega arith);
        }
