-- Rows whose separators lie around their keys: one behind the other, and the leaves of a digest. Assumes nothing.
use mathlib.Core.Path.{◌≡◌, refl, ap}
use mathlib.Core.Bool.{Bool, true}
use mathlib.Core.Option.{Option, none, some}
use mathlib.Core.List.{List, [], ◌∷◌, ◌++◌, map, append-nil, append_assoc}
use Prim.Native.Nat.{ℕ}
use native.Mathlib.Nat.{le_refl, le_trans, le_of_lt, lt_of_le_of_lt, lt_of_lt_of_le}
use Rattle.bit_ops.specs.Key.{num}
use Rattle.bit_ops.specs.Separate.{separate_of}
use Rattle.bit_ops.proofs.Separators.{separator_is_above_a, separator_is_at_most_b}
use Rattle.leaf_node.specs.Record.{Record}
use Rattle.leaf_node.specs.Page.{records}
use Rattle.leaf_node.specs.Good.{Good}
use Rattle.leaf_node.specs.Build.{build}
use Rattle.leaf_node.specs.Fits.{All, nil, cons, Rising}
use Rattle.leaf_model.specs.Basics.{joined, nonempty}
use Rattle.leaf_model.specs.Work.{Leaf, last_key, leaf_cutoff, next_separator, is_linked, with_separators, separator_after}
use Rattle.leaf_model.specs.Claim.{Lt, Le}
use Rattle.leaf_model.proofs.Tests.{clash}
use Rattle.leaf_model.proofs.Lists.{all_append, all_left, all_right_lem, all_head, all_map}
use Rattle.leaf_model.proofs.Keys.{lt_of_cutoff, test_of_lt, rising_head, rising_tail, rising_left, rising_right, rising_before}
use Rattle.leaf_model.proofs.Plan.{Sized, sized[], sized∷, sized_last, sized_head}
use Rattle.leaf_model.proofs.Separators.{AtOrAbove, BelowCutoff}
use Rattle.row_turns.specs.Row.{RowLeaf, IsRow, row[], row∷}
use Rattle.row_turns.specs.Turns.{made}
use Rattle.row_turns.proofs.Lookups.{records_of_row, Around, around[], around_last, around∷}

-- a leaf lies below a key: its separator and all of its keys do
pub record Under (s : List ℕ) (x : RowLeaf) : Type 0 where
  pub separator : Lt x.separator s
  pub keys : All (λ r. Lt r.key s) (records x.page)

under_more : (s s' : List ℕ) (x : RowLeaf) → Le s s' → Under s x → Under s' x
under_more s s' x h u = record { separator = lt_of_lt_of_le u.separator h; keys = all_map (λ r p. lt_of_lt_of_le p h) u.keys }

pub all_under_more : (s s' : List ℕ) {xs : List RowLeaf} → Le s s' → All (Under s) xs → All (Under s') xs
all_under_more s s' h a = all_map (λ x u. under_more s s' x h u) a

-- a leaf's keys are at or above its separator
abbrev pub From : RowLeaf → Type 0
From x = All (λ r. Le x.separator r.key) (records x.page)

-- a row in which each leaf lies below the separators of all leaves behind it
pub data RowRight : List RowLeaf → Type 0 where
  right[] : RowRight []
  right∷ : {x : RowLeaf} {xs : List RowLeaf} → From x → All (λ y. Under y.separator x) xs → RowRight xs → RowRight (x ∷ xs)

pub right_append : {xs ys : List RowLeaf} → RowRight xs → RowRight ys → All (λ x. All (λ y. Under y.separator x) ys) xs → RowRight (xs ++ ys)
right_append right[] k b = k
right_append (right∷ f a h) k (cons p b) = right∷ f (all_append a p) (right_append h k b)

-- all of xs lies below s, and ys begins there
pub right_behind : (s : List ℕ) {xs ys : List RowLeaf} → RowRight xs → RowRight ys → All (Under s) xs → All (λ y. Le s y.separator) ys → RowRight (xs ++ ys)
right_behind s h k a b = right_append h k (all_map (λ x u. all_map (λ y l. under_more s y.separator x l u) b) a)

above_first : {y : RowLeaf} {ys : List RowLeaf} → RowRight (y ∷ ys) → All (λ r. Le y.separator r.key) (records_of_row (y ∷ ys))
above_first {y} (right∷ f a h) = all_append f (go a h)
  where
    go : {zs : List RowLeaf} → All (λ z. Under z.separator y) zs → RowRight zs → All (λ r. Le y.separator r.key) (records_of_row zs)
    go nil right[] = nil
    go (cons u us) (right∷ f' a' h') = all_append (all_map (λ r p. le_of_lt (lt_of_lt_of_le u.separator p)) f') (go us h')

pub separators_lie_around : {xs : List RowLeaf} → RowRight xs → Around xs
separators_lie_around right[] = around[]
separators_lie_around (right∷ {xs = []} f a h) = around_last
separators_lie_around (right∷ {xs = y ∷ ys} f (cons u us) h) = around∷ u.keys (above_first h) (separators_lie_around h)

-- such a row of good pages is a row
pub right_rows_are_rows : {size : ℕ} {xs : List RowLeaf} → RowRight xs → All (λ x. Good size x.page) xs → IsRow size xs
right_rows_are_rows right[] nil = row[]
right_rows_are_rows (right∷ {x} {xs = []} f a h) (cons g gs) = row∷ (record { good = g; above = f; below = all_map (λ r p. refl) f; cut = refl }) row[]
right_rows_are_rows (right∷ {x} {xs = y ∷ ys} f (cons u us) h) (cons g gs) =
    row∷ (record { good = g; above = f; below = all_map (λ r p. test_of_lt r.key y.separator p) u.keys; cut = test_of_lt x.separator y.separator u.separator }) (right_rows_are_rows h gs)

-- ---- the leaves of a digest

keys_to_last : (x : Record) (xs : List Record) → Rising (x ∷ xs) → All (λ r. Le r.key (last_key (x ∷ xs))) (x ∷ xs)
keys_to_last x [] u = cons (le_refl (num x.key)) nil
keys_to_last x (y ∷ ys) u =
    let h = keys_to_last y ys (rising_tail u) in
    cons (le_trans (le_of_lt (all_head (rising_head u))) (all_head h)) h

-- a leaf with records behind it lies below the separator of what follows
leaf_is_under : (size : ℕ) (s : List ℕ) (x : Record) (xs : List Record) (n : Record) (ns : List Record) → Rising ((x ∷ xs) ++ (n ∷ ns)) → Le s x.key
    → records (build size (x ∷ xs)) ≡ x ∷ xs
    → (l : Leaf) → l.separator ≡ s → l.records ≡ x ∷ xs → Under (separate_of (last_key (x ∷ xs)) n.key) (made size l)
leaf_is_under size s x xs n ns u f back l e q =
    let k = keys_to_last x xs (rising_left (x ∷ xs) (n ∷ ns) u) in
    let below : Lt (last_key (x ∷ xs)) n.key = lt_of_le_of_lt_all x xs n.key k (all_map (λ r h. all_head h) (rising_before (x ∷ xs) (n ∷ ns) u)) in
    let above : Lt (last_key (x ∷ xs)) (separate_of (last_key (x ∷ xs)) n.key) = separator_is_above_a (last_key (x ∷ xs)) n.key below in
    record {
      separator = rw e (lt_of_le_of_lt (le_trans f (all_head k)) above);
      keys = rw (q, back) (all_map (λ r p. lt_of_le_of_lt p above) k);
    }
  where
    lt_of_le_of_lt_all : (x : Record) (xs : List Record) (b : List ℕ) → All (λ r. Le r.key (last_key (x ∷ xs))) (x ∷ xs) → All (λ r. Lt r.key b) (x ∷ xs) → Lt (last_key (x ∷ xs)) b
    lt_of_le_of_lt_all x xs b k a = of_last x xs a
      where
        of_last : (x : Record) (xs : List Record) → All (λ r. Lt r.key b) (x ∷ xs) → Lt (last_key (x ∷ xs)) b
        of_last x [] (cons p h) = p
        of_last x (y ∷ ys) (cons p h) = of_last y ys h

-- what the leaves of a digest are as a row: they begin at s, lie below the cutoff, and below what is kept
pub record DigestRow (size : ℕ) (s : List ℕ) (c : Option (List ℕ)) (m : Bool) (ls : List (List Record)) (left : List Record) : Type 0 where
  pub right : RowRight (map (made size) (with_separators s c m ls left))
  pub from : All (λ y. Le s y.separator) (map (made size) (with_separators s c m ls left))
  pub cut : (b : List ℕ) → c ≡ some b → All (Under b) (map (made size) (with_separators s c m ls left))
  pub kept : nonempty left ≡ true → All (Under (separator_after s ls left)) (map (made size) (with_separators s c m ls left))
  pub after : Le s (separator_after s ls left)

abbrev Back : ℕ → List Record → Type 0
Back size l = records (build size l) ≡ l

module _ (size : ℕ) (m : Bool) where
  module _ (s : List ℕ) (c : Option (List ℕ)) (x : Record) (xs : List Record) (back : Back size (x ∷ xs)) (f : All (AtOrAbove s) (x ∷ xs)) (a : All (BelowCutoff c) (x ∷ xs)) where
    from_itself : (l : Leaf) → l.separator ≡ s → l.records ≡ x ∷ xs → From (made size l)
    from_itself l e q = rw (e, q, back) f

    under_cutoff : (l : Leaf) → l.separator ≡ s → l.records ≡ x ∷ xs → (b : List ℕ) → c ≡ some b → Under b (made size l)
    under_cutoff l e q b h =
        let k : All (λ r. Lt r.key b) (x ∷ xs) = all_map (λ r p. lt_of_cutoff c r.key b p h) a in
        record { separator = rw e (lt_of_le_of_lt (all_head f) (all_head k)); keys = rw (q, back) k }

    -- the last leaf, behind which nothing is left
    alone : DigestRow size s c m ((x ∷ xs) ∷ []) []
    alone =
        let l : Leaf = record { records = x ∷ xs; separator = s; cutoff = c; linked = m } in
        record {
          right = right∷ (from_itself l refl refl) nil right[];
          from = cons (le_refl (num s)) nil;
          cut = λ b h. cons (under_cutoff l refl refl b h) nil;
          kept = λ k. clash k refl;
          after = le_refl (num s);
        }

    -- a leaf before others or before what is kept
    before : (ls : List (List Record)) (left : List Record) (n : Record) (ns : List Record) → joined ls ++ left ≡ n ∷ ns → Rising ((x ∷ xs) ++ (joined ls ++ left))
        → DigestRow size (next_separator s (x ∷ xs) (joined ls ++ left)) c m ls left → DigestRow size s c m ((x ∷ xs) ∷ ls) left
    before ls left n ns q u ih =
        let next : List ℕ = next_separator s (x ∷ xs) (joined ls ++ left) in
        let l : Leaf = record { records = x ∷ xs; separator = s; cutoff = leaf_cutoff (x ∷ xs) (joined ls ++ left) c; linked = is_linked ls m } in
        let e : next ≡ separate_of (last_key (x ∷ xs)) n.key = ap (next_separator s (x ∷ xs)) q in
        let u' : Rising ((x ∷ xs) ++ (n ∷ ns)) = rw q at u in
        let under : Under next (made size l) = rw e (leaf_is_under size s x xs n ns u' (all_head f) back l refl refl) in
        record {
          right = right∷ (from_itself l refl refl) (all_map (λ y h. under_more next y.separator (made size l) h under) ih.from) ih.right;
          from = cons (le_refl (num s)) (all_map (λ y h. le_trans (le_of_lt under.separator) h) ih.from);
          cut = λ b h. cons (under_cutoff l refl refl b h) (ih.cut b h);
          kept = λ k. cons (under_more next (separator_after next ls left) (made size l) ih.after under) (ih.kept k);
          after = le_trans (le_of_lt under.separator) ih.after;
        }

  no_leaf : (s : List ℕ) (c : Option (List ℕ)) (left : List Record) → DigestRow size s c m [] left
  no_leaf s c left = record { right = right[]; from = nil; cut = λ b h. nil; kept = λ k. nil; after = le_refl (num s) }

  next_above : (s : List ℕ) (x : Record) (xs next : List Record) → Rising ((x ∷ xs) ++ next) → All (AtOrAbove (next_separator s (x ∷ xs) next)) next
  next_above s x xs [] u = nil
  next_above s x xs (n ∷ ns) u =
      let h : Le (separate_of (last_key (x ∷ xs)) n.key) n.key = separator_is_at_most_b (last_key (x ∷ xs)) n.key in
      cons h (all_map (λ r p. le_of_lt (lt_of_le_of_lt h p)) (rising_head (rising_right (x ∷ xs) (n ∷ ns) u)))

  pub leaves_of_a_digest_are_a_row : (s : List ℕ) {c : Option (List ℕ)} {ls : List (List Record)} {left : List Record} → Sized size c left ls
      → Rising (joined ls ++ left) → All (AtOrAbove s) (joined ls ++ left) → All (BelowCutoff c) (joined ls ++ left) → All (Back size) ls → DigestRow size s c m ls left
  leaves_of_a_digest_are_a_row s sized[] u f a b = no_leaf s _ _
  leaves_of_a_digest_are_a_row s (sized∷ {l = []} z h) u f a b = clash z.some_record refl
  leaves_of_a_digest_are_a_row s {c} (sized∷ {left = left} {l = x ∷ xs} {ls = ls} z h) u f a (cons p b) =
      let u' = rw (append_assoc (x ∷ xs) (joined ls) left) at u in
      let f' = rw (append_assoc (x ∷ xs) (joined ls) left) at f in
      let a' = rw (append_assoc (x ∷ xs) (joined ls) left) at a in
      go ls left (sized_head' h) p (all_left (x ∷ xs) _ f') (all_left (x ∷ xs) _ a') u'
      (leaves_of_a_digest_are_a_row (next_separator s (x ∷ xs) (joined ls ++ left)) h (rising_right (x ∷ xs) (joined ls ++ left) u') (next_above s x xs (joined ls ++ left) u') (all_right_lem (x ∷ xs) (joined ls ++ left) a') b)
    where
      Some : List (List Record) → Type 0
      Some ls = (l : List Record) (rest : List (List Record)) → ls ≡ l ∷ rest → nonempty l ≡ true

      sized_head' : {left : List Record} {ls : List (List Record)} → Sized size c left ls → Some ls
      sized_head' h l rest e = sized_head (rw e at h)

      go : (ls : List (List Record)) (left : List Record) → Some ls → Back size (x ∷ xs) → All (AtOrAbove s) (x ∷ xs) → All (BelowCutoff c) (x ∷ xs) → Rising ((x ∷ xs) ++ (joined ls ++ left))
          → DigestRow size (next_separator s (x ∷ xs) (joined ls ++ left)) c m ls left → DigestRow size s c m ((x ∷ xs) ∷ ls) left
      go [] [] k p f a u ih = alone s c x xs p f a
      go [] (n ∷ ns) k p f a u ih = before s c x xs p f a [] (n ∷ ns) n ns refl u ih
      go ([] ∷ ls) left k p f a u ih = clash (k [] ls refl) refl
      go ((y ∷ ys) ∷ ls) left k p f a u ih = before s c x xs p f a ((y ∷ ys) ∷ ls) left y _ refl u ih
  leaves_of_a_digest_are_a_row s (sized_last {l = []} e z) u f a b = clash e refl
  leaves_of_a_digest_are_a_row s (sized_last {l = x ∷ xs} e z) u f a (cons p b) = alone s none x xs p (simp append-nil at f) (simp append-nil at a)
