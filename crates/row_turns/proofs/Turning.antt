-- What holds of a row's turns, leaf by leaf. Assumes nothing.
use mathlib.Core.Path.{◌≡◌, refl, sym, ap, ◌∙◌}
use mathlib.Core.Bool.{Bool, true, false, cond, ◌||◌}
use mathlib.Core.Option.{Option, none, some}
use mathlib.Core.List.{List, [], ◌∷◌, ◌++◌, map, append-nil, append_assoc}
use Prim.Native.Nat.{ℕ, ◌≤◌}
use native.Mathlib.Omega.{arith}
use native.Mathlib.Nat.{le_refl, le_trans, le_of_lt, lt_trans, lt_of_le_of_lt, lt_of_lt_of_le}
use lib.Dec.{eqb}
use lib.ListN.{length}
use borrow.Author.Tests.{eqb-true, eq-eqb}
use Rattle.bit_ops.specs.Key.{num}
use Rattle.leaf_node.specs.Limits.{PageSize, body_limit, value_limit}
use Rattle.leaf_node.specs.Record.{Record, body}
use Rattle.leaf_node.specs.Page.{count, records}
use Rattle.leaf_node.specs.Good.{Good}
use Rattle.leaf_node.specs.Build.{build}
use Rattle.leaf_node.specs.Fits.{All, nil, cons, Keyed, Proper, Rising}
use Rattle.leaf_node.proofs.RoundTrips.{a_built_page_has_its_records, a_built_page_is_good, records_of_a_good_page_are_proper}
use Rattle.leaf_model.specs.Basics.{joined, nonempty}
use Rattle.leaf_model.specs.Cut.{Cut}
use Rattle.leaf_model.specs.Work.{next_separator, Change, below_cutoff, plan, leaves_by, with_separators, separator_after}
use Rattle.leaf_model.specs.Claim.{Lt, Le}
use Rattle.leaf_model.proofs.Tests.{clash, none_is_not_some}
use Rattle.leaf_model.proofs.Lists.{all_append, all_left, all_right_lem, all_map, joined_append}
use Rattle.leaf_model.proofs.Keys.{lt_of_cutoff, test_of_lt, rising_append, rising_right, rising_left}
use Rattle.leaf_model.proofs.Cutting.{Fitting}
use Rattle.leaf_model.proofs.Plan.{Sized, sized[], sized∷, sized_last, leaves_and_kept_are_the_records, leaves_have_right_sizes, kept_records_wait_for_a_merge}
use Rattle.leaf_model.proofs.Separators.{AtOrAbove, BelowCutoff, kept_records_are_above_their_separator}
use Rattle.row_turns.specs.Row.{RowLeaf, LeafRight, Among, OldOrMade, is_old, is_made, Bodies, every_page, but_the_last, pages_of}
use Rattle.row_turns.specs.Changes.{Edit, changed_all}
use Rattle.row_turns.specs.Turns.{Turned, made, load_verdict, digested_to, loaded, turn, turns}
use Rattle.row_turns.proofs.Lookups.{records_of_row}
use Rattle.row_turns.proofs.Rows.{Under, all_under_more, RowRight, right[], right∷, right_behind, DigestRow, leaves_of_a_digest_are_a_row}
use Rattle.row_turns.proofs.Changing.{all_changed, all_changed_rise, all_changed_low}

-- what is known of the changes that it takes
pub record EditFacts (size : ℕ) (s : List ℕ) (c : Option (List ℕ)) (es : List Edit) : Type 0 where
  pub above : All (λ e. Le s e.key) es
  pub below : All (λ e. below_cutoff c e.key ≡ true) es
  pub fitting : All (λ e. (d : Change) → e.change ≡ some d → length d.value ≤ value_limit size) es
  pub keyed : All (λ e. length e.key ≡ 32) es

-- the turns so far: `old` are the pages of the old row, `cut` is where its next leaf begins, T what its records so far are under the changes so far
pub record Turning (size : ℕ) (old : List (List ℕ)) (cut : Option (List ℕ)) (t : Turned) (T : List Record) : Type 0 where
  pub tally : records_of_row t.row ++ t.kept ≡ T
  pub rising : Rising T
  pub below : All (BelowCutoff cut) T
  pub right : RowRight t.row
  pub placed : (b : List ℕ) → cut ≡ some b → All (Under b) t.row
  pub fitting : All (Fitting size) t.kept
  pub keyed : All Keyed t.kept
  pub kept_placed : nonempty t.kept ≡ true → All (Under t.separator) t.row × All (AtOrAbove t.separator) t.kept
  pub merges : cut ≡ none → t.kept ≡ []
  pub good : All (λ x. Good size x.page) t.row
  pub whole_leaves : (b : List ℕ) → cut ≡ some b → All (OldOrMade size old) (pages_of t.row)
  pub bodies : Bodies size old (pages_of t.row)

below_of : (c : Option (List ℕ)) (k : List ℕ) → ((b : List ℕ) → c ≡ some b → Lt k b) → below_cutoff c k ≡ true
below_of none k f = refl
below_of (some b) k f = test_of_lt k b (f b refl)

map-append : (f : RowLeaf → List Record) (xs ys : List RowLeaf) → map f (xs ++ ys) ≡ map f xs ++ map f ys
map-append f [] ys = refl
map-append f (x ∷ xs) ys = ap (λ l. f x ∷ l) (map-append f xs ys)

pub records_of_both : (xs ys : List RowLeaf) → records_of_row (xs ++ ys) ≡ records_of_row xs ++ records_of_row ys
records_of_both xs ys = ap joined (map-append (λ x. records x.page) xs ys) ∙ joined_append (map (λ x. records x.page) xs) (map (λ x. records x.page) ys)

abbrev number_of : Turned → ℕ
number_of t = t.number

pages_of_both : (xs ys : List RowLeaf) → pages_of (xs ++ ys) ≡ pages_of xs ++ pages_of ys
pages_of_both [] ys = refl
pages_of_both (x ∷ xs) ys = ap {B = List (List ℕ)} (λ l. x.page ∷ l) (pages_of_both xs ys)

accepted_only : (n : ℕ) (done : Turned) (row : List RowLeaf) (kept : List Record) (s : List ℕ)
    → number_of (elim (eqb n 0) [ true ↦ done | false ↦ record { number = n; row = row; kept = kept; separator = s } ]) ≡ 0
    → ◌≡◌ {A = Turned} (elim (eqb n 0) [ true ↦ done | false ↦ record { number = n; row = row; kept = kept; separator = s } ]) done
accepted_only n done row kept s = at (eqb n 0) refl
  where
    at : (b : Bool) → eqb n 0 ≡ b → number_of (elim b [ true ↦ done | false ↦ record { number = n; row = row; kept = kept; separator = s } ]) ≡ 0
        → ◌≡◌ {A = Turned} (elim b [ true ↦ done | false ↦ record { number = n; row = row; kept = kept; separator = s } ]) done
    at true e h = refl
    at false e h = clash (eq-eqb n 0 h) e

module _ (size entries bytes : ℕ) (q : PageSize size) where
  -- ---- the leaves that a digest makes have their records

  leaf_good : (l : List Record) → body l ≤ body_limit size → All Keyed l → All (Fitting size) l → Rising l → Good size (build size l)
  leaf_good l z k f u = a_built_page_is_good size l (record { fits = record { sized = q; keys = k; room = z }; fitting = f; rise = u })

  back_of : {c : Option (List ℕ)} {left : List Record} {ls : List (List Record)} → Sized size c left ls → All Keyed (joined ls) → All (λ l. records (build size l) ≡ l) ls
  back_of sized[] k = nil
  back_of (sized∷ {l = l} {ls = ls} z h) k = cons (a_built_page_has_its_records size l (record { sized = q; keys = all_left l (joined ls) k; room = z.fits })) (back_of h (all_right_lem l (joined ls) k))
  back_of (sized_last {l = l} e z) k = cons (a_built_page_has_its_records size l (record { sized = q; keys = all_left l [] k; room = z })) nil

  records_made : (s : List ℕ) (c : Option (List ℕ)) (m : Bool) {ls : List (List Record)} (left : List Record) → All (λ l. records (build size l) ≡ l) ls
      → records_of_row (map (made size) (with_separators s c m ls left)) ≡ joined ls
  records_made s c m left nil = refl
  records_made s c m left (cons {x = l} {xs = ls} p a) = rw p (ap (λ r. l ++ r) (records_made (next_separator s l (joined ls ++ left)) c m left a))

  -- they are good pages
  made_good : (s : List ℕ) (c : Option (List ℕ)) (m : Bool) {ls : List (List Record)} (left : List Record) → Sized size c left ls → All Keyed (joined ls ++ left) → All (Fitting size) (joined ls ++ left)
      → Rising (joined ls ++ left) → All (λ y. Good size y.page) (map (made size) (with_separators s c m ls left))
  made_good s c m left sized[] k f u = nil
  made_good s c m left (sized∷ {l = l} {ls = ls} z h) k f u =
      let k' = rw (append_assoc l (joined ls) left) at k in
      let f' = rw (append_assoc l (joined ls) left) at f in
      let u' = rw (append_assoc l (joined ls) left) at u in
      cons (leaf_good l z.fits (all_left l _ k') (all_left l _ f') (rising_left l _ u')) (made_good (next_separator s l (joined ls ++ left)) c m left h (all_right_lem l (joined ls ++ left) k') (all_right_lem l (joined ls ++ left) f') (rising_right l (joined ls ++ left) u'))
  made_good s c m left (sized_last {l = l} e z) k f u =
      let k' = rw (append_assoc l [] []) at k in
      let f' = rw (append_assoc l [] []) at f in
      let u' = rw (append_assoc l [] []) at u in
      cons (leaf_good l z (all_left l [] k') (all_left l [] f') (rising_left l [] u')) nil

  -- their bodies are right, but that of the last one where there is no cutoff
  made_whole : (old : List (List ℕ)) (s : List ℕ) {c : Option (List ℕ)} (m : Bool) {ls : List (List Record)} (left : List Record) → Sized size c left ls → (b : List ℕ) → c ≡ some b
      → All (λ l. records (build size l) ≡ l) ls → All (OldOrMade size old) (pages_of (map (made size) (with_separators s c m ls left)))
  made_whole old s m left sized[] b e back = nil
  made_whole old s m left (sized∷ {l = l} {ls = ls} z h) b e (cons r back) = cons {x = build size l} (is_made (rw r z.enough) (rw r z.fits)) (made_whole old (next_separator s l (joined ls ++ left)) m left h b e back)
  made_whole old s m left (sized_last e' z) b e back = none_is_not_some e

  made_bodies : (old : List (List ℕ)) (s : List ℕ) (c : Option (List ℕ)) (m : Bool) {ls : List (List Record)} (left : List Record) {ps : List (List ℕ)} → All (OldOrMade size old) ps → Sized size c left ls
      → All (λ l. records (build size l) ≡ l) ls → Bodies size old (ps ++ pages_of (map (made size) (with_separators s c m ls left)))
  made_bodies old s c m left {ps} a sized[] back = rw (append-nil ps) (every_page a)
  made_bodies old s c m left {ps} a (sized∷ {l = l} {ls = ls} z h) (cons r back) =
      let here : All (OldOrMade size old) (ps ++ (build size l ∷ [])) = all_append a (cons (is_made (rw r z.enough) (rw r z.fits)) nil) in
      rw (← append_assoc ps (build size l ∷ []) _) (made_bodies old (next_separator s l (joined ls ++ left)) c m left here h back)
  made_bodies old s c m left a (sized_last {l = l} e z) (cons r back) = but_the_last (build size l) a (rw r z)

  -- ---- a refusal in the middle

  pub loaded_is : (t : Turned) (s : List ℕ) (c : Option (List ℕ)) (rs : List Record) (es : List Edit) → (loaded size entries bytes t s c rs es).number ≡ 0
      → loaded size entries bytes t s c rs es ≡ digested_to size entries bytes t.row (cond (nonempty t.kept) t.separator s) c (changed_all es (t.kept ++ rs))
  loaded_is t s c rs es h = accepted_only (load_verdict entries bytes t.kept rs es) _ t.row t.kept t.separator h

  pub refused_stays : (t : Turned) (xs : List RowLeaf) (es : List Edit) → eqb t.number 0 ≡ false → turns size entries bytes t xs es ≡ t
  refused_stays t [] es e = refl
  refused_stays t (x ∷ xs) es e = rw (e, turns)

  pub accepted_before : (t : Turned) (xs : List RowLeaf) (es : List Edit) → (turns size entries bytes t xs es).number ≡ 0 → t.number ≡ 0
  accepted_before t xs es h = go (eqb t.number 0) refl
    where
      go : (b : Bool) → eqb t.number 0 ≡ b → t.number ≡ 0
      go true e = eqb-true t.number 0 e
      go false e = rw (refused_stays t xs es e) at h

  no_element : {A : Type 0} (ys : List A) → nonempty ys ≡ false → ys ≡ []
  no_element [] e = refl
  no_element (y ∷ ys) e = clash refl e

  neither : (a b : Bool) → (a || b) ≡ false → (a ≡ false) × (b ≡ false)
  neither true b e = clash refl e
  neither false b e = (refl, e)

  abbrev pub copied_to : Turned → RowLeaf → Turned
  copied_to t x = record { number = t.number; row = t.row ++ (x ∷ []); kept = []; separator = t.separator }

  -- a turn that isn't refused loads its leaf and digests, or copies it, since it takes no change and nothing waits
  pub data TurnIs (t : Turned) (x : RowLeaf) (c : Option (List ℕ)) (es : List Edit) : Type 0 where
    was_loaded : turn size entries bytes t x c es ≡ digested_to size entries bytes t.row (cond (nonempty t.kept) t.separator x.separator) c (changed_all es (t.kept ++ records x.page)) → TurnIs t x c es
    was_copied : es ≡ [] → t.kept ≡ [] → turn size entries bytes t x c es ≡ copied_to t x → TurnIs t x c es

  pub a_turn_is : (t : Turned) (x : RowLeaf) (c : Option (List ℕ)) (es : List Edit) → (turn size entries bytes t x c es).number ≡ 0 → TurnIs t x c es
  a_turn_is t x c es n = go (nonempty es || nonempty t.kept) refl
    where
      go : (b : Bool) → (nonempty es || nonempty t.kept) ≡ b → TurnIs t x c es
      go true e =
          let l : turn size entries bytes t x c es ≡ loaded size entries bytes t x.separator c (records x.page) es = rw (turn, e) in
          was_loaded (l ∙ loaded_is t x.separator c (records x.page) es (ap number_of (sym l) ∙ n))
      go false e = let z = neither (nonempty es) (nonempty t.kept) e in was_copied (no_element es z.0) (no_element t.kept z.1) (rw (turn, e))

  -- ---- one leaf

  module _ (old : List (List ℕ)) (t : Turned) (T : List Record) (x : RowLeaf) (c : Option (List ℕ)) (es : List Edit) (h : Turning size old (some x.separator) t T)
      (l : LeafRight size x c) (f : EditFacts size x.separator c es) where
    abbrev rs : List Record
    rs = records x.page

    proper : Proper size rs
    unfolding records
    proper = records_of_a_good_page_are_proper size x.page q l.good 0 (count x.page) (omega arith) (omega arith)

    cut : (b : List ℕ) → c ≡ some b → Lt x.separator b
    cut b e = lt_of_cutoff c x.separator b l.cut e

    abbrev R : List Record
    R = records_of_row t.row

    -- all old records so far lie below this leaf
    before_leaf : All (λ r. Lt r.key x.separator) T
    before_leaf = all_map (λ r p. lt_of_cutoff (some x.separator) r.key x.separator p refl) h.below

    before_both : All (λ r. Lt r.key x.separator) (R ++ t.kept)
    before_both = rw h.tally before_leaf

    all_rising : Rising (T ++ rs)
    all_rising = rising_append h.rising proper.rise (all_map (λ r p. all_map (λ y a. lt_of_lt_of_le p a) l.above) before_leaf)

    all_below_lem : All (BelowCutoff c) (T ++ rs)
    all_below_lem = all_append (all_map (λ r p. below_of c r.key (λ b e. lt_trans p (cut b e))) before_leaf) l.below

    tally_rises : Rising (changed_all es (T ++ rs))
    tally_rises = all_changed_rise es all_rising

    tally_below : All (BelowCutoff c) (changed_all es (T ++ rs))
    tally_below = all_changed (all_map (λ e p d g. p) f.below) all_below_lem

    further : (b : List ℕ) → c ≡ some b → All (Under b) t.row
    further b e = all_under_more x.separator b (le_of_lt (cut b e)) (h.placed x.separator refl)

    -- ---- copied

    with_copy : Among x.page old → All (OldOrMade size old) (pages_of (t.row ++ (x ∷ [])))
    with_copy o = rw (pages_of_both t.row (x ∷ [])) (all_append (h.whole_leaves x.separator refl) (cons (is_old o) nil))

    copied_leaf : Among x.page old → es ≡ [] → t.kept ≡ [] → Turning size old c (copied_to t x) (changed_all es (T ++ rs))
    copied_leaf o e k = record {
      tally = rw (e, records_of_both t.row (x ∷ []), append-nil rs, append-nil (R ++ rs)) (ap (λ (z : List Record). z ++ rs) (sym (append-nil R) ∙ ap (λ (z : List Record). R ++ z) (sym k) ∙ h.tally));
      rising = tally_rises;
      below = tally_below;
      right = right_behind x.separator h.right (right∷ l.above nil right[]) (h.placed x.separator refl) (cons (le_refl (num x.separator)) nil);
      placed = λ b g. all_append (further b g) (cons (record { separator = cut b g; keys = all_map (λ r p. lt_of_cutoff c r.key b p g) l.below }) nil);
      fitting = nil;
      keyed = nil;
      kept_placed = λ n. clash n refl;
      merges = λ e. refl;
      good = all_append h.good (cons l.good nil);
      whole_leaves = λ b e. with_copy o;
      bodies = every_page (with_copy o);
    }

    -- ---- loaded

    abbrev s : List ℕ
    s = cond (nonempty t.kept) t.separator x.separator

    abbrev P : List Record
    P = changed_all es (t.kept ++ rs)

    -- the separator of what is pending: below the row, at or above nothing but it
    record Starts (s : List ℕ) : Type 0 where
      row : All (Under s) t.row
      kept : All (AtOrAbove s) t.kept
      leaf : Le s x.separator

    first_kept : (s : List ℕ) (ks : List Record) → nonempty ks ≡ true → All (AtOrAbove s) ks → All (λ r. Lt r.key x.separator) ks → Le s x.separator
    first_kept s [] n a b = clash n refl
    first_kept s (k ∷ ks) n (cons p a) (cons q' b) = le_of_lt (lt_of_le_of_lt p q')

    none_kept : (s : List ℕ) (ks : List Record) → nonempty ks ≡ false → All (AtOrAbove s) ks
    none_kept s [] n = nil
    none_kept s (k ∷ ks) n = clash refl n

    starts : Starts s
    starts = go (nonempty t.kept) refl
      where
        go : (b : Bool) → nonempty t.kept ≡ b → Starts (cond b t.separator x.separator)
        go true e = let k = h.kept_placed e in record { row = k.0; kept = k.1; leaf = first_kept t.separator t.kept e k.1 (all_right_lem R t.kept before_both) }
        go false e = record { row = h.placed x.separator refl; kept = none_kept x.separator t.kept e; leaf = le_refl (num x.separator) }

    pending_rises : Rising P
    pending_rises = all_changed_rise es (rising_right R (t.kept ++ rs) (rw (append_assoc R t.kept rs) at (rw (← h.tally) at all_rising)))

    pending_above : All (AtOrAbove s) P
    pending_above =
        all_changed (all_map (λ e p d g. le_trans starts.leaf p) f.above) (all_append starts.kept (all_map (λ r p. le_trans starts.leaf p) l.above))

    pending_below : All (BelowCutoff c) P
    pending_below = all_changed (all_map (λ e p d g. p) f.below) (all_right_lem R (t.kept ++ rs) (rw (append_assoc R t.kept rs) at (rw (← h.tally) at all_below_lem)))

    pending_fits : All (Fitting size) P
    pending_fits = all_changed f.fitting (all_append h.fitting proper.fitting)

    pending_keyed : All Keyed P
    pending_keyed = all_changed (all_map (λ e p d g. p) f.keyed) (all_append h.keyed proper.fits.keys)

    abbrev p : Cut
    p = plan size c P

    whole : joined p.leaves ++ p.left ≡ P
    whole = leaves_and_kept_are_the_records size c P

    sizes : Sized size c p.left p.leaves
    sizes = leaves_have_right_sizes size q c P pending_fits

    backs : All (λ l. records (build size l) ≡ l) p.leaves
    backs = back_of sizes (all_left (joined p.leaves) p.left (rw (← whole) at pending_keyed))

    row : DigestRow size s c (nonempty p.left) p.leaves p.left
    row = leaves_of_a_digest_are_a_row size (nonempty p.left) s sizes (rw (← whole) at pending_rises) (rw (← whole) at pending_above) (rw (← whole) at pending_below) backs

    nothing_left : c ≡ none → (left : List Record) → p.left ≡ left → left ≡ []
    nothing_left e [] g = refl
    nothing_left e (r ∷ left) g = let k = kept_records_wait_for_a_merge size c P (ap nonempty g) in none_is_not_some (sym e ∙ k.1)

    pages_good : All (λ y. Good size y.page) (map (made size) (leaves_by s c p))
    pages_good = made_good s c (nonempty p.left) p.left sizes (rw (← whole) at pending_keyed) (rw (← whole) at pending_fits) (rw (← whole) at pending_rises)

    pub loaded_leaf : Turning size old c (digested_to size entries bytes t.row s c P) (changed_all es (T ++ rs))
    loaded_leaf =
        let M : List RowLeaf = map (made size) (leaves_by s c p) in
        let low : All (λ e. All (λ r. Lt r.key e.key) R) es = all_map (λ e a. all_map (λ r b. lt_of_lt_of_le b a) (all_left R t.kept before_both)) f.above in
        let same : changed_all es (T ++ rs) ≡ R ++ P = rw (← h.tally) (ap (changed_all es) (append_assoc R t.kept rs) ∙ all_changed_low R (t.kept ++ rs) low) in
        record {
          tally = rw (same, records_of_both t.row M, records_made s c (nonempty p.left) p.left backs) (append_assoc R (joined p.leaves) p.left ∙ ap (λ (z : List Record). R ++ z) whole);
          rising = tally_rises;
          below = tally_below;
          right = right_behind s h.right row.right starts.row row.from;
          placed = λ b e. all_append (further b e) (row.cut b e);
          fitting = all_right_lem (joined p.leaves) p.left (rw (← whole) at pending_fits);
          keyed = all_right_lem (joined p.leaves) p.left (rw (← whole) at pending_keyed);
          kept_placed = λ n. (
            all_append (all_under_more s (separator_after s p.leaves p.left) row.after starts.row) (row.kept n),
            kept_records_are_above_their_separator s sizes (rw (← whole) at pending_rises) (rw (← whole) at pending_above),
          );
          merges = λ e. nothing_left e p.left refl;
          good = all_append h.good pages_good;
          whole_leaves = λ b e. rw (pages_of_both t.row M) (all_append (h.whole_leaves x.separator refl) (made_whole old s (nonempty p.left) p.left sizes b e backs));
          bodies = rw (pages_of_both t.row M) (made_bodies old s c (nonempty p.left) p.left (h.whole_leaves x.separator refl) sizes backs);
        }

    -- ---- loaded or copied

    pub a_turn_holds : Among x.page old → (turn size entries bytes t x c es).number ≡ 0 → Turning size old c (turn size entries bytes t x c es) (changed_all es (T ++ rs))
    a_turn_holds o n = go (a_turn_is t x c es n)
      where
        go : TurnIs t x c es → Turning size old c (turn size entries bytes t x c es) (changed_all es (T ++ rs))
        go (was_loaded e) = rw e loaded_leaf
        go (was_copied n k e) = rw e (copied_leaf o n k)
