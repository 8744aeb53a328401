-- Pages written and read back, and right pages read and written again. Assumes nothing.
use mathlib.Core.Path.{◌≡◌, refl, sym, ◌∙◌}
use mathlib.Core.Bool.{true}
use mathlib.Core.List.{List, [], ◌∷◌, ◌++◌, append_assoc}
use Prim.Native.Nat.{ℕ, zero, suc, ◌+◌, ◌-◌, ◌*◌, ◌≤◌, min}
use native.Mathlib.Omega.{arith}
use lib.ListN.{length, take, drop, length-append, length-drop, take-append-drop}
use lib.Seq.{length-take-le, take_at, drop_at, take-add, take-take}
use Rattle.bit_ops.specs.Key.{Bytes}
use Rattle.leaf_node.specs.Fits.{All, nil, cons}
use Rattle.leaf_model.specs.Basics.{joined}
use Rattle.leaf_model.proofs.Lists.{all_append}
use Rattle.leaf_builder.proofs.Putting.{take_drop}
use Rattle.overflow.specs.Count.{body_bytes}
use Rattle.overflow.specs.Written.{page_of, pages_of}
use Rattle.overflow.specs.Read.{numbers_in, page_numbers, page_bytes, numbers_here, bytes_here, page_right, pages_in, pages_right, joined_value, freed_numbers}
use Rattle.overflow.proofs.Chunks.{length_page, a_page_by_its_counts, no_page}
use Rattle.overflow.proofs.Reading.{next_page_in, no_page_in, next_page_right, no_page_right, next_joined, none_joined, next_freed, none_freed, RightPages, right_pages_in_turn}
use Rattle.overflow_claim.specs.Written.{Number}
use Rattle.overflow_claim.proofs.Bytes.{bytes_taken, bytes_dropped, numbers_are_small, bytes_back, numbers_of_page, a_written_page_is_right, a_right_page_is_written, numbers_length, bytes_length}

-- ---- lists

pub all_taken : {P : ℕ → Type 0} (i : ℕ) {xs : List ℕ} → All P xs → All P (take i xs)
all_taken zero a = nil
all_taken (suc i) nil = nil
all_taken (suc i) (cons p a) = cons p (all_taken i a)

pub all_dropped : {P : ℕ → Type 0} (i : ℕ) {xs : List ℕ} → All P xs → All P (drop i xs)
all_dropped zero a = a
all_dropped (suc i) nil = nil
all_dropped (suc i) (cons p a) = all_dropped i a

pub none_long : (xs : List ℕ) → length xs ≤ 0 → xs ≡ []
none_long [] h = refl
none_long (x ∷ xs) h = absurd (omega arith)

-- ---- the counts of a page

counts_fit : (n v : ℕ) → 4 * numbers_here n + bytes_here n v ≤ body_bytes
counts_fit n v = omega arith

less_left : (t n v : ℕ) → v + 4 * n ≤ suc t * body_bytes → (v - bytes_here n v) + 4 * (n - numbers_here n) ≤ t * body_bytes
less_left t n v h = go (numbers_here n) (bytes_here n v) refl refl
  where
    go : (a b : ℕ) → a ≡ min 1023 n → b ≡ min (4092 - 4 * min 1023 n) v → (v - b) + 4 * (n - a) ≤ t * 4092
    go a b e f = last a b e (f ∙ rw (← e))
      where
        last : (a b : ℕ) → a ≡ min 1023 n → b ≡ min (4092 - 4 * a) v → (v - b) + 4 * (n - a) ≤ t * 4092
        last a b e f = omega arith

module _ (ns v : List ℕ) where
  abbrev a : ℕ
  a = numbers_here (length ns)

  abbrev b : ℕ
  b = bytes_here (length ns) (length v)

  numbers_there : length (take a ns) ≡ a
  numbers_there = length-take-le a ns (omega arith)

  bytes_there : length (take b v) ≡ b
  bytes_there = length-take-le b v (omega arith)

  fits : 4 * length (take a ns) + length (take b v) ≤ body_bytes
  fits = rw (numbers_there, bytes_there) (counts_fit (length ns) (length v))

-- ---- written, then read

pub written_pages_are_read : (t : ℕ) (ns v rest : List ℕ) → pages_in t (joined (pages_of t ns v) ++ rest) ≡ pages_of t ns v
written_pages_are_read zero ns v rest = rw (no_page ns v) (no_page_in rest)
written_pages_are_read (suc t) ns v rest =
    let p : List ℕ = page_of (take (a ns v) ns) (take (b ns v) v) in
    let l : length (page_of (take (a ns v) ns) (take (b ns v) v)) ≡ 4096 = length_page (take (a ns v) ns) (take (b ns v) v) (fits ns v) in
    let others : List ℕ = joined (pages_of t (drop (a ns v) ns) (drop (b ns v) v)) ++ rest in
    rw (
      a_page_by_its_counts t ns v (a ns v) (b ns v) refl refl,
      append_assoc (page_of (take (a ns v) ns) (take (b ns v) v)) (joined (pages_of t (drop (a ns v) ns) (drop (b ns v) v))) rest,
      next_page_in t (page_of (take (a ns v) ns) (take (b ns v) v) ++ (joined (pages_of t (drop (a ns v) ns) (drop (b ns v) v)) ++ rest)),
      take_at (page_of (take (a ns v) ns) (take (b ns v) v)) (joined (pages_of t (drop (a ns v) ns) (drop (b ns v) v)) ++ rest) 4096 l,
      drop_at (page_of (take (a ns v) ns) (take (b ns v) v)) (joined (pages_of t (drop (a ns v) ns) (drop (b ns v) v)) ++ rest) 4096 l,
      written_pages_are_read t (drop (a ns v) ns) (drop (b ns v) v) rest,
    )

pub written_pages_are_long : (t : ℕ) (ns v : List ℕ) → length (joined (pages_of t ns v)) ≡ 4096 * t
written_pages_are_long zero ns v = rw (no_page ns v)
written_pages_are_long (suc t) ns v =
    let l : length (page_of (take (a ns v) ns) (take (b ns v) v)) ≡ 4096 = length_page (take (a ns v) ns) (take (b ns v) v) (fits ns v) in
    rw (
      a_page_by_its_counts t ns v (a ns v) (b ns v) refl refl,
      length-append (page_of (take (a ns v) ns) (take (b ns v) v)) (joined (pages_of t (drop (a ns v) ns) (drop (b ns v) v))),
      l,
      written_pages_are_long t (drop (a ns v) ns) (drop (b ns v) v),
    ) (omega arith)

pub written_pages_are_right : (t : ℕ) (ns v : List ℕ) → pages_right (length ns) (length v) (pages_of t ns v) ≡ true
written_pages_are_right zero ns v = rw (no_page ns v) (no_page_right (length ns) (length v))
written_pages_are_right (suc t) ns v =
    let p : page_right (a ns v) (b ns v) (page_of (take (a ns v) ns) (take (b ns v) v)) ≡ true =
    rw (numbers_there ns v, bytes_there ns v) at (a_written_page_is_right (take (a ns v) ns) (take (b ns v) v) (fits ns v)) in
    let o : pages_right (length ns - a ns v) (length v - b ns v) (pages_of t (drop (a ns v) ns) (drop (b ns v) v)) ≡ true =
    rw (length-drop (a ns v) ns, length-drop (b ns v) v) at (written_pages_are_right t (drop (a ns v) ns) (drop (b ns v) v)) in
    rw (
      a_page_by_its_counts t ns v (a ns v) (b ns v) refl refl,
      next_page_right (length ns) (length v) (page_of (take (a ns v) ns) (take (b ns v) v)) (pages_of t (drop (a ns v) ns) (drop (b ns v) v)),
      p,
      o,
    )

room_left : (t : ℕ) (ns v : List ℕ) → length v + 4 * length ns ≤ suc t * body_bytes → length (drop (b ns v) v) + 4 * length (drop (a ns v) ns) ≤ t * body_bytes
room_left t ns v h = rw (length-drop (b ns v) v, length-drop (a ns v) ns) (less_left t (length ns) (length v) h)

pub joining_gives_the_value : (t : ℕ) (ns v : List ℕ) → length v + 4 * length ns ≤ t * body_bytes → joined_value (pages_of t ns v) ≡ v
joining_gives_the_value zero ns v h = rw (no_page ns v, none_joined) (sym (none_long v (omega arith)))
joining_gives_the_value (suc t) ns v h =
    rw (
      a_page_by_its_counts t ns v (a ns v) (b ns v) refl refl,
      next_joined (page_of (take (a ns v) ns) (take (b ns v) v)) (pages_of t (drop (a ns v) ns) (drop (b ns v) v)),
      bytes_back (take (a ns v) ns) (take (b ns v) v) (fits ns v),
      joining_gives_the_value t (drop (a ns v) ns) (drop (b ns v) v) (room_left t ns v h),
    ) (take-append-drop (b ns v) v)

pub freeing_gives_the_numbers : (t : ℕ) (ns v : List ℕ) → All Number ns → length v + 4 * length ns ≤ t * body_bytes → freed_numbers (pages_of t ns v) ≡ ns
freeing_gives_the_numbers zero ns v k h = rw (no_page ns v, none_freed) (sym (none_long ns (omega arith)))
freeing_gives_the_numbers (suc t) ns v k h =
    rw (
      a_page_by_its_counts t ns v (a ns v) (b ns v) refl refl,
      next_freed (page_of (take (a ns v) ns) (take (b ns v) v)) (pages_of t (drop (a ns v) ns) (drop (b ns v) v)),
      numbers_of_page (take (a ns v) ns) (take (b ns v) v) (fits ns v) (all_taken (a ns v) k),
      freeing_gives_the_numbers t (drop (a ns v) ns) (drop (b ns v) v) (all_dropped (a ns v) k) (room_left t ns v h),
    ) (take-append-drop (a ns v) ns)

-- ---- read, then written

pub pages_of_a_front : (t : ℕ) (area : List ℕ) → pages_in t (take (4096 * t) area) ≡ pages_in t area
pages_of_a_front zero area = no_page_in (take (4096 * 0) area) ∙ sym (no_page_in area)
pages_of_a_front (suc t) area =
    let e : 4096 * suc t ≡ 4096 + 4096 * t = omega arith in
    rw (
      next_page_in t (take (4096 * suc t) area),
      next_page_in t area,
      e,
      take-take 4096 (4096 + 4096 * t) area (omega arith),
      ← (take_drop 4096 (4096 * t) area),
      pages_of_a_front t (drop 4096 area),
    )

pub pages_joined_are_the_front : (t : ℕ) (area : List ℕ) → joined (pages_in t area) ≡ take (4096 * t) area
pages_joined_are_the_front zero area = rw (no_page_in area)
pages_joined_are_the_front (suc t) area =
    let e : 4096 * suc t ≡ 4096 + 4096 * t = omega arith in
    rw (next_page_in t area, e, take-add 4096 (4096 * t) area, pages_joined_are_the_front t (drop 4096 area))

pub record Again (t n b : ℕ) (ps : List (List ℕ)) : Type 0 where
  pub numbers : length (freed_numbers ps) ≡ n
  pub bytes : length (joined_value ps) ≡ b
  pub small : All Number (freed_numbers ps)
  pub same : pages_of t (freed_numbers ps) (joined_value ps) ≡ ps

pub right_pages_are_written_again : (t n b : ℕ) (area : List ℕ) → Bytes area → 4096 * t ≤ length area → pages_right n b (pages_in t area) ≡ true → b + 4 * n ≤ t * body_bytes
    → Again t n b (pages_in t area)
right_pages_are_written_again zero n b area bs l h f = rw (no_page_in area) none
  where
    none : Again zero n b []
    none = record {
      numbers = rw none_freed (omega arith);
      bytes = rw none_joined (omega arith);
      small = rw none_freed nil;
      same = no_page (freed_numbers []) (joined_value []);
    }
right_pages_are_written_again (suc t) n b area bs l h f =
    let p : List ℕ = take 4096 area in
    let ps : List (List ℕ) = pages_in t (drop 4096 area) in
    let r : RightPages n b (take 4096 area) (pages_in t (drop 4096 area)) = right_pages_in_turn n b (take 4096 area) (pages_in t (drop 4096 area)) (rw (next_page_in t area) at h) in
    let i : Again t (n - numbers_here n) (b - bytes_here n b) (pages_in t (drop 4096 area)) =
    right_pages_are_written_again t (n - numbers_here n) (b - bytes_here n b) (drop 4096 area) (bytes_dropped 4096 area bs) (simp length-drop (omega arith)) r.others (less_left t n b f) in
    rw (next_page_in t area) (turn t n b (take 4096 area) (pages_in t (drop 4096 area)) (length-take-le 4096 area (omega arith)) (bytes_taken 4096 area bs) r i)
  where
    turn : (t n b : ℕ) (p : List ℕ) (ps : List (List ℕ)) → length p ≡ 4096 → Bytes p → RightPages n b p ps → Again t (n - numbers_here n) (b - bytes_here n b) ps → Again (suc t) n b (p ∷ ps)
    turn t n b p ps l bp r i =
        let x : ℕ = numbers_here n in
        let y : ℕ = bytes_here n b in
        let lx : length (page_numbers p) ≡ numbers_here n = numbers_length (numbers_here n) (bytes_here n b) p l (counts_fit n b) bp r.first in
        let ly : length (page_bytes p) ≡ bytes_here n b = bytes_length (numbers_here n) (bytes_here n b) p l (counts_fit n b) bp r.first in
        let ln : length (freed_numbers (p ∷ ps)) ≡ n = rw (next_freed p ps, length-append (page_numbers p) (freed_numbers ps), lx, i.numbers) (omega arith) in
        let lb : length (joined_value (p ∷ ps)) ≡ b = rw (next_joined p ps, length-append (page_bytes p) (joined_value ps), ly, i.bytes) (omega arith) in
        let ex : numbers_here n ≡ numbers_here (length (freed_numbers (p ∷ ps))) = rw ln in
        let ey : bytes_here n b ≡ bytes_here (length (freed_numbers (p ∷ ps))) (length (joined_value (p ∷ ps))) = rw (ln, lb) in
        record {
          numbers = ln;
          bytes = lb;
          small = rw (next_freed p ps) (all_append (numbers_are_small (numbers_in p) (drop 4 p) (bytes_dropped 4 p bp)) i.small);
          same = a_page_by_its_counts t (freed_numbers (p ∷ ps)) (joined_value (p ∷ ps)) (numbers_here n) (bytes_here n b) ex ey
              ∙ rw (
                next_freed p ps,
                next_joined p ps,
                take_at (page_numbers p) (freed_numbers ps) (numbers_here n) lx,
                take_at (page_bytes p) (joined_value ps) (bytes_here n b) ly,
                drop_at (page_numbers p) (freed_numbers ps) (numbers_here n) lx,
                drop_at (page_bytes p) (joined_value ps) (bytes_here n b) ly,
                i.same,
                a_right_page_is_written (numbers_here n) (bytes_here n b) p l (counts_fit n b) bp r.first,
              );
        }
