-- Lookup in records under changes, in a page, and in a row whose separators lie around its keys. Assumes nothing.
use Rattle.std.specs.Prelude.{Result, Ok, Err}
use mathlib.Core.Path.{◌≡◌, refl, sym, ap, ◌∙◌}
use mathlib.Core.Logic.{⊎_elim}
use mathlib.Core.Bool.{Bool, true, false}
use mathlib.Core.Option.{Option, none, some}
use mathlib.Core.List.{List, [], ◌∷◌, ◌++◌, map}
use Prim.Native.Nat.{ℕ, zero, suc, ◌+◌, ◌-◌, ◌≤◌, ◌<◌}
use native.Mathlib.Omega.{arith}
use native.Mathlib.Decide.{dec_lt}
use native.Mathlib.Nat.{eq-or-lt_of_le}
use Rattle.bit_ops.specs.Key.{num, lt_key, eq_key}
use Rattle.leaf_node.specs.Limits.{PageSize}
use Rattle.leaf_node.specs.Record.{Record}
use Rattle.leaf_node.specs.Page.{count, value_at, record_at, run, records_between, records}
use Rattle.leaf_node.specs.Good.{Good}
use Rattle.leaf_node.specs.Search.{search_of}
use Rattle.leaf_node.specs.Cell.{cell_at}
use Rattle.leaf_node.specs.Fits.{All, nil, cons}
use Rattle.leaf_node.proofs.Verdicts.{accepted_pages_are_the_good_ones}
use Rattle.leaf_node.proofs.Searches.{rise_on, found_is, records_before_an_absent_key_are_below_it, records_behind_an_absent_key_are_above_it}
use Rattle.leaf_read.specs.Reply.{get_of, get_reply}
use Rattle.leaf_model.specs.Basics.{joined}
use Rattle.leaf_model.specs.Work.{Change}
use Rattle.leaf_model.specs.Tally.{strike, place, changed}
use Rattle.leaf_model.specs.Claim.{Lt, Le}
use Rattle.leaf_model.proofs.Keys.{lt_of_test, le_of_test}
use Rattle.leaf_model.proofs.Lists.{all_map}
use Rattle.row_turns.specs.Row.{RowLeaf}
use Rattle.row_turns.specs.Changes.{Edit, changed_all, RisingEdits, edits[], edits∷}
use Rattle.row_turns.specs.Lookup.{answered, lookup, expected}
use Rattle.row_turns.proofs.Changing.{same, differ, is_same, is_other}

-- a record's value and flag
abbrev pub held : Record → Change
held r = record { value = r.value; flag = r.flag }

-- lookup in records: the first one with the key
abbrev pub lookup_in : List ℕ → List Record → Option Change
lookup_in k [] = none
lookup_in k (r ∷ rs) = elim (eq_key k r.key) [ true ↦ some (held r) | false ↦ lookup_in k rs ]

-- ---- in records under one change

module _ (k : List ℕ) where
  struck : (k' : List ℕ) (t : List Record) → eq_key k k' ≡ true → lookup_in k (strike k' t) ≡ none
  struck k' [] e = refl
  struck k' (x ∷ xs) e = go (struck k' xs e) (eq_key k' x.key) refl
    where
      go : lookup_in k (strike k' xs) ≡ none → (b : Bool) → eq_key k' x.key ≡ b → lookup_in k (strike k' (x ∷ xs)) ≡ none
      go ih true f = rw (f, strike) ih
      go ih false f = rw (f, strike, is_other k x.key (λ g. differ k' x.key f (sym (same k k' e) ∙ g)), lookup_in) ih

  kept : (k' : List ℕ) (t : List Record) → eq_key k k' ≡ false → lookup_in k (strike k' t) ≡ lookup_in k t
  kept k' [] e = refl
  kept k' (x ∷ xs) e = go (kept k' xs e) (eq_key k' x.key) refl
    where
      go : lookup_in k (strike k' xs) ≡ lookup_in k xs → (b : Bool) → eq_key k' x.key ≡ b → lookup_in k (strike k' (x ∷ xs)) ≡ lookup_in k (x ∷ xs)
      go ih true f = rw (f, strike, is_other k x.key (λ g. differ k k' e (g ∙ sym (same k' x.key f))), lookup_in) ih
      go ih false f = go' (eq_key k x.key) refl
        where
          go' : (d : Bool) → eq_key k x.key ≡ d → lookup_in k (strike k' (x ∷ xs)) ≡ lookup_in k (x ∷ xs)
          go' true h = rw (f, strike, h, lookup_in)
          go' false h = rw (f, strike, h, lookup_in) ih

  placed_here : (r : Record) (t : List Record) → eq_key k r.key ≡ true → lookup_in k (place r t) ≡ some (held r)
  placed_here r [] e = rw (e, lookup_in)
  placed_here r (x ∷ xs) e = go (placed_here r xs e) (lt_key x.key r.key) refl
    where
      go : lookup_in k (place r xs) ≡ some (held r) → (b : Bool) → lt_key x.key r.key ≡ b → lookup_in k (place r (x ∷ xs)) ≡ some (held r)
      go ih true f = rw (f, place, is_other k x.key (λ g. absurd (omega (arith, g, same k r.key e, lt_of_test x.key r.key f))), lookup_in) ih
      go ih false f = rw (f, place, e, lookup_in)

  placed_elsewhere : (r : Record) (t : List Record) → eq_key k r.key ≡ false → lookup_in k (place r t) ≡ lookup_in k t
  placed_elsewhere r [] e = rw (e, lookup_in)
  placed_elsewhere r (x ∷ xs) e = go (placed_elsewhere r xs e) (lt_key x.key r.key) refl
    where
      go : lookup_in k (place r xs) ≡ lookup_in k xs → (b : Bool) → lt_key x.key r.key ≡ b → lookup_in k (place r (x ∷ xs)) ≡ lookup_in k (x ∷ xs)
      go ih true f = go' (eq_key k x.key) refl
        where
          go' : (d : Bool) → eq_key k x.key ≡ d → lookup_in k (place r (x ∷ xs)) ≡ lookup_in k (x ∷ xs)
          go' true h = rw (f, place, h, lookup_in)
          go' false h = rw (f, place, h, lookup_in) ih
      go ih false f = rw (f, place, e, lookup_in)

  changed_here : (k' : List ℕ) (c : Option Change) (t : List Record) → eq_key k k' ≡ true → lookup_in k (changed k' c t) ≡ c
  changed_here k' none t e = struck k' t e
  changed_here k' (some c) t e = placed_here (record { key = k'; value = c.value; flag = c.flag }) (strike k' t) e

  changed_elsewhere : (k' : List ℕ) (c : Option Change) (t : List Record) → eq_key k k' ≡ false → lookup_in k (changed k' c t) ≡ lookup_in k t
  changed_elsewhere k' none t e = kept k' t e
  changed_elsewhere k' (some c) t e = placed_elsewhere (record { key = k'; value = c.value; flag = c.flag }) (strike k' t) e ∙ kept k' t e

  -- ---- under rising changes

  untouched : (l : List ℕ) (es : List Edit) (old : Option Change) → All (λ e. Lt l e.key) es → num k ≤ num l → expected k es old ≡ old
  untouched l [] old a h = refl
  untouched l (e ∷ es) old (cons p a) h = rw (is_other k e.key (λ g. absurd (omega (arith, g, p, h))), expected) (untouched l es old a h)

-- the change if there is one, else what the records had
pub changed_records_are_found : (k : List ℕ) {es : List Edit} → RisingEdits es → (t : List Record) → lookup_in k (changed_all es t) ≡ expected k es (lookup_in k t)
changed_records_are_found k edits[] t = refl
changed_records_are_found k (edits∷ {e} {es} a h) t = changed_records_are_found k h (changed e.key e.change t) ∙ go (eq_key k e.key) refl
  where
    go : (b : Bool) → eq_key k e.key ≡ b → expected k es (lookup_in k (changed e.key e.change t)) ≡ expected k (e ∷ es) (lookup_in k t)
    go true f = rw (changed_here k e.key e.change t f, f, expected) (untouched k e.key es e.change a (omega (arith, same k e.key f)))
    go false f = rw (changed_elsewhere k e.key e.change t f, f, expected)

-- ---- in a page

-- of records that f numbers: the one at i has the key, and none before it; or none has it
module _ (k : List ℕ) (f : ℕ → Record) where
  found_at : (m s i : ℕ) → s ≤ i → i < s + m → num k ≡ num (f i).key → ((j : ℕ) → s ≤ j → j < i → num k ≡ num (f j).key → ⊥) → lookup_in k (run m s f) ≡ some (held (f i))
  unfolding run
  found_at zero s i a b e n = absurd (omega arith)
  found_at (suc m) s i a b e n =
      ⊎_elim (λ (q : s ≡ i). rw (is_same k (f s).key (e ∙ ap (λ (j : ℕ). num (f j).key) (sym q)), lookup_in) (ap (λ (j : ℕ). some (held (f j))) q))
      (λ (q : s < i). rw (is_other k (f s).key (n s (omega arith) q), lookup_in) (found_at m (suc s) i q (omega arith) e (λ j x y. n j (omega arith) y)))
      (eq-or-lt_of_le {n = s} {m = i} a)

  found_nowhere : (m s : ℕ) → ((j : ℕ) → s ≤ j → j < s + m → num k ≡ num (f j).key → ⊥) → lookup_in k (run m s f) ≡ none
  unfolding run
  found_nowhere zero s n = refl
  found_nowhere (suc m) s n = rw (is_other k (f s).key (n s (omega arith) (omega arith)), lookup_in) (found_nowhere m (suc s) (λ j x y. n j (omega arith) (omega arith)))

-- what reading a good page by key answers is what its records have
pub a_good_page_is_looked_up_by_its_records : (size : ℕ) → PageSize size → (p : List ℕ) → Good size p → (k : List ℕ) → answered p (get_reply size p k) ≡ lookup_in k (records p)
unfolding get_reply records records_between cell_at record_at value_at
a_good_page_is_looked_up_by_its_records size q p g k = rw ((accepted_pages_are_the_good_ones size p).1 g) (go (search_of p 0 k) refl)
  where
    go : (s : Result ℕ ℕ) → search_of p 0 k ≡ s → answered p (Ok (get_of p s)) ≡ lookup_in k (run (count p - 0) 0 (record_at p))
    go (Ok i) e =
        let f = found_is p 0 k i e in
        sym (found_at k (record_at p) (count p - 0) 0 i (omega arith) (omega (arith, f.1)) (sym f.2) (λ j a b h. absurd (omega (arith, rise_on p g.keys j i b f.1, h, f.2))))
    go (Err i) e = sym (found_nowhere k (record_at p) (count p - 0) 0 (λ j a b h. elim (dec_lt j i) [
      | yes y ↦ absurd (omega (arith, records_before_an_absent_key_are_below_it size p q g 0 k i e j a y, h))
      | no y ↦ absurd (omega (arith, records_behind_an_absent_key_are_above_it size p q g 0 k i e j (omega arith) (omega arith), h))
    ]))

-- ---- in a row

abbrev pub records_of_row : List RowLeaf → List Record
records_of_row xs = joined (map (λ x. records x.page) xs)

-- separators lie around the keys: those of a leaf are below the next separator, and those behind it at or above
pub data Around : List RowLeaf → Type 0 where
  around[] : Around []
  around_last : {x : RowLeaf} → Around (x ∷ [])
  around∷ : {x y : RowLeaf} {ys : List RowLeaf} → All (λ r. Lt r.key y.separator) (records x.page)
      → All (λ r. Le y.separator r.key) (records_of_row (y ∷ ys)) → Around (y ∷ ys) → Around (x ∷ y ∷ ys)

module _ (k : List ℕ) where
  found_first : (xs ys : List Record) → All (λ r. Lt k r.key) ys → lookup_in k (xs ++ ys) ≡ lookup_in k xs
  found_first [] [] a = refl
  found_first [] (y ∷ ys) (cons p a) = rw (is_other k y.key (λ g. absurd (omega (arith, g, p))), lookup_in) (found_first [] ys a)
  found_first (x ∷ xs) ys a = go (found_first xs ys a) (eq_key k x.key) refl
    where
      go : lookup_in k (xs ++ ys) ≡ lookup_in k xs → (b : Bool) → eq_key k x.key ≡ b → lookup_in k (x ∷ xs ++ ys) ≡ lookup_in k (x ∷ xs)
      go ih true f = rw (f, lookup_in)
      go ih false f = rw (f, lookup_in) ih

  found_behind : (xs ys : List Record) → All (λ r. Lt r.key k) xs → lookup_in k (xs ++ ys) ≡ lookup_in k ys
  found_behind [] ys a = refl
  found_behind (x ∷ xs) ys (cons p a) = rw (is_other k x.key (λ g. absurd (omega (arith, g, p))), lookup_in) (found_behind xs ys a)

  pub a_row_is_looked_up_by_its_records : (size : ℕ) → PageSize size → {xs : List RowLeaf} → All (λ x. Good size x.page) xs → Around xs → lookup size k xs ≡ lookup_in k (records_of_row xs)
  a_row_is_looked_up_by_its_records size q g around[] = refl
  a_row_is_looked_up_by_its_records size q (cons g gs) (around_last {x}) = a_good_page_is_looked_up_by_its_records size q x.page g k ∙ sym (found_first (records x.page) [] nil)
  a_row_is_looked_up_by_its_records size q (cons g gs) (around∷ {x} {y} {ys} below above h) = go (a_row_is_looked_up_by_its_records size q gs h) (lt_key k y.separator) refl
    where
      go : lookup size k (y ∷ ys) ≡ lookup_in k (records_of_row (y ∷ ys)) → (b : Bool) → lt_key k y.separator ≡ b → lookup size k (x ∷ y ∷ ys) ≡ lookup_in k (records_of_row (x ∷ y ∷ ys))
      go ih true f = rw (f, lookup) (a_good_page_is_looked_up_by_its_records size q x.page g k ∙ sym (found_first (records x.page) (records_of_row (y ∷ ys)) (all_map (λ r p. omega (arith, p, lt_of_test k y.separator f)) above)))
      go ih false f = rw (f, lookup) (ih ∙ sym (found_behind (records x.page) (records_of_row (y ∷ ys)) (all_map (λ r p. omega (arith, p, le_of_test y.separator k f)) below)))
