-- Separators and cutoffs of a digest's leaves (step 5): they part the leaves, a leaf ends where the next one starts, and what is kept lies
-- at or above the override. Assumes nothing.
use mathlib.Core.Path.{◌≡◌, refl, sym, ap, ◌∙◌}
use mathlib.Core.Bool.{Bool, true}
use mathlib.Core.Option.{Option, some, some-injective}
use mathlib.Core.List.{List, [], ◌∷◌, ◌++◌, append-nil, append_assoc}
use Prim.Native.Nat.{ℕ}
use native.Mathlib.Nat.{le_of_lt, lt_of_le_of_lt}
use Rattle.bit_ops.specs.Separate.{separate_of}
use Rattle.bit_ops.proofs.Separators.{separator_is_above_a, separator_is_at_most_b}
use Rattle.leaf_node.specs.Record.{Record}
use Rattle.leaf_node.specs.Fits.{All, nil, cons, Rising}
use Rattle.leaf_model.specs.Basics.{joined, nonempty}
use Rattle.leaf_model.specs.Work.{Leaf, below_cutoff, last_key, leaf_cutoff, next_separator, is_linked, or_else, with_separators, separator_after, override_after}
use Rattle.leaf_model.specs.Claim.{Lt, Le, records_of, BodyRight, BoundsRight, LinksRight}
use Rattle.leaf_model.proofs.Tests.{clash, none_is_not_some}
use Rattle.leaf_model.proofs.Lists.{all_left, all_right_lem, all_head, all_map}
use Rattle.leaf_model.proofs.Keys.{lt_of_cutoff, rising_head, rising_right, rising_before}
use Rattle.leaf_model.proofs.Plan.{Sized, sized[], sized∷, sized_last, sized_head}

-- a record's key against a separator and against a cutoff
abbrev pub AtOrAbove : List ℕ → Record → Type 0
AtOrAbove s r = Le s r.key

abbrev pub BelowCutoff : Option (List ℕ) → Record → Type 0
BelowCutoff c r = below_cutoff c r.key ≡ true

-- ---- the records stay

pub leaves_have_the_cut_records : (s : List ℕ) (c : Option (List ℕ)) (m : Bool) (ls : List (List Record)) (left : List Record)
    → records_of (with_separators s c m ls left) ≡ joined ls
leaves_have_the_cut_records s c m [] left = refl
leaves_have_the_cut_records s c m (l ∷ ls) left = ap (λ r. l ++ r) (leaves_have_the_cut_records (next_separator s l (joined ls ++ left)) c m ls left)

pub records_append : (xs ys : List Leaf) → records_of (xs ++ ys) ≡ records_of xs ++ records_of ys
records_append [] ys = refl
records_append (x ∷ xs) ys = rw (records_append xs ys) (sym (append_assoc x.records (records_of xs) (records_of ys)))

-- ---- a leaf x ∷ xs and what comes after it

-- what holds of every key holds of the last
of_last_key : (Q : List ℕ → Type 0) (x : Record) (xs : List Record) → All (λ r. Q r.key) (x ∷ xs) → Q (last_key (x ∷ xs))
of_last_key Q x [] (cons p h) = p
of_last_key Q x (y ∷ ys) (cons p h) = of_last_key Q y ys h

last_is_below_next : (x : Record) (xs : List Record) (n : Record) (ns : List Record) → Rising ((x ∷ xs) ++ (n ∷ ns)) → Lt (last_key (x ∷ xs)) n.key
last_is_below_next x xs n ns u = of_last_key (λ k. Lt k n.key) x xs (all_map (λ r h. all_head h) (rising_before (x ∷ xs) (n ∷ ns) u))

next_is_above_its_separator : (s : List ℕ) (x : Record) (xs next : List Record) → Rising ((x ∷ xs) ++ next) → All (AtOrAbove (next_separator s (x ∷ xs) next)) next
next_is_above_its_separator s x xs [] u = nil
next_is_above_its_separator s x xs (n ∷ ns) u =
    let h : Le (separate_of (last_key (x ∷ xs)) n.key) n.key = separator_is_at_most_b (last_key (x ∷ xs)) n.key in
    cons h (all_map (λ r p. le_of_lt (lt_of_le_of_lt h p)) (rising_head (rising_right (x ∷ xs) (n ∷ ns) u)))

last_is_below_cutoff : (x : Record) (xs next : List Record) → Rising ((x ∷ xs) ++ next) → (o : Option (List ℕ)) → All (BelowCutoff o) (x ∷ xs)
    → (c : List ℕ) → leaf_cutoff (x ∷ xs) next o ≡ some c → Lt (last_key (x ∷ xs)) c
last_is_below_cutoff x xs [] u o a c e = lt_of_cutoff o _ c (of_last_key (λ k. below_cutoff o k ≡ true) x xs a) e
last_is_below_cutoff x xs (n ∷ ns) u o a c e =
    rw (← some-injective _ _ e) (separator_is_above_a (last_key (x ∷ xs)) n.key (last_is_below_next x xs n ns u))

-- ---- all leaves

abbrev pub LeafRight : ℕ → Leaf → Type 0
LeafRight size l = BodyRight size l × BoundsRight l

pub leaves_are_good : {size : ℕ} (s : List ℕ) {c : Option (List ℕ)} (m : Bool) {ls : List (List Record)} {left : List Record} → Sized size c left ls
    → Rising (joined ls ++ left) → All (AtOrAbove s) (joined ls ++ left) → All (BelowCutoff c) (joined ls ++ left)
    → All (LeafRight size) (with_separators s c m ls left)
leaves_are_good s m sized[] u f a = nil
leaves_are_good s m (sized∷ {l = []} z h) u f a = clash z.some_record refl
leaves_are_good s {c} m (sized∷ {left = left} {l = x ∷ xs} {ls = ls} z h) u f a =
    let u' = rw (append_assoc (x ∷ xs) (joined ls) left) at u in
    let f' = rw (append_assoc (x ∷ xs) (joined ls) left) at f in
    let a' = rw (append_assoc (x ∷ xs) (joined ls) left) at a in
    cons (
      record { most = z.fits; least = λ d e. z.enough },
      record {
        some_record = refl;
        first = all_left (x ∷ xs) (joined ls ++ left) f';
        last = last_is_below_cutoff x xs (joined ls ++ left) u' c (all_left (x ∷ xs) (joined ls ++ left) a');
      },
    ) (leaves_are_good (next_separator s (x ∷ xs) (joined ls ++ left)) m h (rising_right (x ∷ xs) (joined ls ++ left) u')
    (next_is_above_its_separator s x xs (joined ls ++ left) u') (all_right_lem (x ∷ xs) (joined ls ++ left) a'))
leaves_are_good s m (sized_last {l = []} e z) u f a = clash e refl
leaves_are_good s m (sized_last {l = x ∷ xs} e z) u f a =
    cons (record { most = z; least = λ d q. none_is_not_some q }, record { some_record = refl; first = simp append-nil at f; last = λ d q. none_is_not_some q }) nil

pub kept_records_are_above_their_separator : {size : ℕ} (s : List ℕ) {c : Option (List ℕ)} {ls : List (List Record)} {left : List Record} → Sized size c left ls
    → Rising (joined ls ++ left) → All (AtOrAbove s) (joined ls ++ left) → All (AtOrAbove (separator_after s ls left)) left
kept_records_are_above_their_separator s sized[] u f = f
kept_records_are_above_their_separator s (sized∷ {l = []} z h) u f = clash z.some_record refl
kept_records_are_above_their_separator s (sized∷ {left = left} {l = x ∷ xs} {ls = ls} z h) u f =
    let u' = rw (append_assoc (x ∷ xs) (joined ls) left) at u in
    kept_records_are_above_their_separator (next_separator s (x ∷ xs) (joined ls ++ left)) h (rising_right (x ∷ xs) (joined ls ++ left) u')
    (next_is_above_its_separator s x xs (joined ls ++ left) u')
kept_records_are_above_their_separator s (sized_last e z) u f = nil

-- ---- where a leaf ends, the next one starts

-- the separator of the first leaf; without a leaf `o`, which stands for the next leaf to come
abbrev first_separator : List Leaf → Option (List ℕ) → Option (List ℕ)
first_separator [] o = o
first_separator (l ∷ ls) o = some l.separator

abbrev EndsAt : Option (List ℕ) → Leaf → Type 0
EndsAt o l = l.linked ≡ true → (s : List ℕ) × (o ≡ some s) × (l.cutoff ≡ some s)

-- each linked leaf ends where the next one starts, the last one at `o`
pub data Links (o : Option (List ℕ)) : List Leaf → Type 0 where
  links[] : Links o []
  links∷ : {l : Leaf} {ls : List Leaf} → EndsAt (first_separator ls o) l → Links o ls → Links o (l ∷ ls)

pub links_append : {o o' : Option (List ℕ)} {xs ys : List Leaf}
    → Links o xs → ((s : List ℕ) → o ≡ some s → first_separator ys o' ≡ some s) → Links o' ys → Links o' (xs ++ ys)
links_append links[] j k = k
links_append (links∷ {l} {ls = []} t h) j k = links∷ (λ e. let q = t e in (q.0, j q.0 q.1, q.2)) (links_append h j k)
links_append (links∷ {l} {ls = x ∷ xs} t h) j k = links∷ t (links_append h j k)

-- neighbours among linked leaves
linked_leaf_ends_where_the_next_starts : {o : Option (List ℕ)} (xs ys : List Leaf) (x y : Leaf) → Links o (xs ++ (x ∷ y ∷ ys))
    → x.linked ≡ true → x.cutoff ≡ some y.separator
linked_leaf_ends_where_the_next_starts [] ys x y (links∷ t h) e = let q = t e in q.2 ∙ sym q.1
linked_leaf_ends_where_the_next_starts (z ∷ xs) ys x y (links∷ t h) e = linked_leaf_ends_where_the_next_starts xs ys x y h e

pub linked_leaves_are_right : {o : Option (List ℕ)} (ls : List Leaf) → Links o ls → LinksRight ls
linked_leaves_are_right ls h xs ys x y e = linked_leaf_ends_where_the_next_starts xs ys x y (rw e at h)

override_step : (s : List ℕ) (l : List Record) (ls : List (List Record)) (left : List Record)
    → override_after s (l ∷ ls) left ≡ override_after (next_separator s l (joined ls ++ left)) ls left
override_step s l ls [] = refl
override_step s l ls (r ∷ rs) = refl

pub leaves_of_a_digest_are_linked : {size : ℕ} (s : List ℕ) {c : Option (List ℕ)} {ls : List (List Record)} {left : List Record} → Sized size c left ls
    → Links (override_after s ls left) (with_separators s c (nonempty left) ls left)
leaves_of_a_digest_are_linked s sized[] = links[]
leaves_of_a_digest_are_linked {size} s {c} (sized∷ {left = left} {l = l} {ls = ls} z h) =
    rw (override_step s l ls left) (links∷ (tie ls left h) (leaves_of_a_digest_are_linked (next_separator s l (joined ls ++ left)) h))
  where
    tie : (ls : List (List Record)) (left : List Record) → Sized size c left ls
        → EndsAt (first_separator (with_separators (next_separator s l (joined ls ++ left)) c (nonempty left) ls left)
        (override_after (next_separator s l (joined ls ++ left)) ls left))
        (record { records = l; separator = s; cutoff = leaf_cutoff l (joined ls ++ left) c; linked = is_linked ls (nonempty left) })
    tie [] [] h t = clash t refl
    tie [] (r ∷ rs) h t = (_, refl, refl)
    tie ([] ∷ ms) left h t = clash (sized_head h) refl
    tie ((r ∷ rs) ∷ ms) left h t = (_, refl, refl)
leaves_of_a_digest_are_linked s (sized_last e z) = links∷ (λ t. clash t refl) links[]

-- ---- the override that a digest leaves, by cases of what it keeps

-- a digest of some records starts at the separator s: the first leaf has it, or the override is it
pub digest_starts_at_its_separator : (s s' : List ℕ) (c : Option (List ℕ)) (m : Bool) (ls : List (List Record)) (left : List Record)
    → s ≡ s' → nonempty (joined ls ++ left) ≡ true
    → first_separator (with_separators s c m ls left) (override_after s ls left) ≡ some s'
digest_starts_at_its_separator s s' c m [] [] e n = clash n refl
digest_starts_at_its_separator s s' c m [] (r ∷ rs) e n = ap some e
digest_starts_at_its_separator s s' c m (l ∷ ls) left e n = ap some e

pub override_comes_with_records : (s s' : List ℕ) (ls : List (List Record)) (left : List Record) → override_after s ls left ≡ some s' → nonempty left ≡ true
override_comes_with_records s s' ls [] e = none_is_not_some e
override_comes_with_records s s' ls (r ∷ rs) e = refl

pub records_come_with_override : (s : List ℕ) (ls : List (List Record)) (left : List Record) → nonempty left ≡ true
    → override_after s ls left ≡ some (separator_after s ls left)
records_come_with_override s ls [] e = clash e refl
records_come_with_override s ls (r ∷ rs) e = refl

pub kept_records_are_above_the_override : (s d : List ℕ) (ls : List (List Record)) (left : List Record) → All (AtOrAbove (separator_after s ls left)) left
    → All (AtOrAbove (or_else (override_after s ls left) d)) left
kept_records_are_above_the_override s d ls [] h = nil
kept_records_are_above_the_override s d ls (r ∷ rs) h = h

pub separator_is_below_cutoff : (s b : List ℕ) (o : Option (List ℕ)) (rs : List Record) → nonempty rs ≡ true
    → All (AtOrAbove s) rs → All (BelowCutoff o) rs → o ≡ some b → Lt s b
separator_is_below_cutoff s b o [] n f a e = clash n refl
separator_is_below_cutoff s b o (r ∷ rs) n f a e = lt_of_le_of_lt (all_head f) (lt_of_cutoff o r.key b (all_head a) e)
