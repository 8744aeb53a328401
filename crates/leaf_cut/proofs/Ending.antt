-- Where a leaf ends, record by record. Assumes nothing.
use mathlib.Core.Path.{◌≡◌, refl, sym, ap, ◌∙◌}
use mathlib.Core.Bool.{Bool, true, false}
use mathlib.Core.List.{List, [], ◌∷◌, ◌++◌, append-nil}
use Prim.Native.Nat.{ℕ, suc, ◌+◌, ◌-◌, ◌*◌, ◌≤◌, ◌<◌}
use native.Mathlib.Omega.{arith}
use native.Mathlib.Nat.{add-zero, add_assoc}
use native.Mathlib.Numerals.{add-one}
use lib.Dec.{leb}
use lib.ListN.{length}
use borrow.Author.Tests.{leb-true, leb-false, lt-ltb, le-ltb, le-leb, lt-leb}
use Rattle.leaf_node.specs.Page.{length_at, run, values_size}
use Rattle.leaf_node.specs.Steps.{Counted}
use Rattle.leaf_node.proofs.Lengths.{length_run}
use Rattle.leaf_cut.specs.declared.Ended.{Ended}
use Rattle.leaf_cut.specs.Sizes.{sum, cut_sizes}
use Rattle.leaf_cut.proofs.Ranges.{one_value_is_its_length, a_range_is_summed}

module _ (limit target : ℕ) where
  -- ---- the clauses, with the tests as orders

  module _ (n b s : ℕ) (ss : List ℕ) where
    pub ends_before : limit < 34 * (n + 1) + (b + s) → cut_sizes limit target n b (s ∷ ss) ≡ record { cut = true; leaf = record { count = n; bytes = b } }
    unfolding cut_sizes
    ends_before h = rw (lt-ltb limit (34 * (n + 1) + (b + s)) h, cut_sizes)

    pub ends_behind : 34 * (n + 1) + (b + s) ≤ limit → target ≤ 34 * (n + 1) + (b + s) → cut_sizes limit target n b (s ∷ ss) ≡ record { cut = true; leaf = record { count = n + 1; bytes = b + s } }
    unfolding cut_sizes
    ends_behind h k = rw (le-ltb limit (34 * (n + 1) + (b + s)) h, le-leb target (34 * (n + 1) + (b + s)) k, cut_sizes)

    pub ends_later : 34 * (n + 1) + (b + s) ≤ limit → 34 * (n + 1) + (b + s) < target → cut_sizes limit target n b (s ∷ ss) ≡ cut_sizes limit target (n + 1) (b + s) ss
    unfolding cut_sizes
    ends_later h k = rw (le-ltb limit (34 * (n + 1) + (b + s)) h, lt-leb target (34 * (n + 1) + (b + s)) k, cut_sizes)

  -- ---- a chunk, record by record

  module _ (p : List ℕ) (to i n b v : ℕ) (e : Ended) (inv : e ≡ cut_sizes limit target n b (run (to - i) i (length_at p))) where
    pub the_chunk_is_taken : to ≤ i → (x : Ended) → x ≡ record { cut = false; leaf = record { count = n; bytes = b } } → x ≡ e
    unfolding cut_sizes run
    the_chunk_is_taken h x d = let z : to - i ≡ 0 = omega arith in d ∙ rw (inv, z)

    module _ (records : ℕ) (c : Counted p records) (there : to ≤ records) (h : i < to) (q : v ≡ values_size p i (i + 1)) (body : ℕ) (m : body ≡ 34 * (n + 1) + (b + v)) where
      head : e ≡ cut_sizes limit target n b (v ∷ run (to - (i + 1)) (i + 1) (length_at p))
      unfolding run
      head = let z : to - i ≡ suc (to - (i + 1)) = omega arith in inv ∙ rw (z, one_value_is_its_length p records (c.laid (omega arith)) i v (omega arith) q, add-one i)

      pub the_leaf_ends_before : limit < body → (x : Ended) → x ≡ record { cut = true; leaf = record { count = n; bytes = b } } → x ≡ e
      the_leaf_ends_before k x d = d ∙ rw (head, ends_before n b v (run (to - (i + 1)) (i + 1) (length_at p)) (rw m at k))

      module _ (k : body ≤ limit) where
        pub the_leaf_ends_behind : target ≤ body → (x : Ended) → x ≡ record { cut = true; leaf = record { count = n + 1; bytes = b + v } } → x ≡ e
        the_leaf_ends_behind l x d = d ∙ rw (head, ends_behind n b v (run (to - (i + 1)) (i + 1) (length_at p)) (rw m at k) (rw m at l))

        pub the_leaf_ends_later : body < target → e ≡ cut_sizes limit target (n + 1) (b + v) (run (to - (i + 1)) (i + 1) (length_at p))
        the_leaf_ends_later l = head ∙ ends_later n b v (run (to - (i + 1)) (i + 1) (length_at p)) (rw m at k) (rw m at l)

  -- ---- records below the target are taken whole

  pub records_below_the_target_are_taken : (xs ys : List ℕ) (n b : ℕ) → target ≤ limit → 34 * (n + length xs) + (b + sum xs) < target
      → cut_sizes limit target n b (xs ++ ys) ≡ cut_sizes limit target (n + length xs) (b + sum xs) ys
  unfolding sum
  records_below_the_target_are_taken [] ys n b t h = rw (add-zero n, add-zero b)
  records_below_the_target_are_taken (x ∷ xs) ys n b t h =
      let e : n + suc (length xs) ≡ n + 1 + length xs = omega arith in
      ends_later n b x (xs ++ ys) (omega arith) (omega arith) ∙ records_below_the_target_are_taken xs ys (n + 1) (b + x) t (omega arith) ∙ rw (e, add_assoc b x (sum xs))

  -- ---- an insert

  module _ (n b v body : ℕ) (m : body ≡ 34 * (n + 1) + (b + v)) (e : Ended) where
    pub an_insert_ends_the_leaf : limit < body → e ≡ record { cut = true; leaf = record { count = n; bytes = b } } → e ≡ cut_sizes limit target n b (v ∷ [])
    an_insert_ends_the_leaf h d = d ∙ sym (ends_before n b v [] (rw m at h))

    pub an_insert_is_taken : body ≤ limit → e ≡ record { cut = leb target body; leaf = record { count = n + 1; bytes = b + v } } → e ≡ cut_sizes limit target n b (v ∷ [])
    an_insert_is_taken h d = d ∙ test (leb target body) refl
      where
        test : (t : Bool) → leb target body ≡ t → record { cut = leb target body; leaf = record { count = n + 1; bytes = b + v } } ≡ cut_sizes limit target n b (v ∷ [])
        test true q = rw (ends_behind n b v [] (rw m at h) (rw m at (leb-true target body q)), q)
        test false q = unfold cut_sizes in rw (ends_later n b v [] (rw m at h) (rw m at (leb-false target body q)), q)

  -- ---- a chunk that stays below the target

  pub a_chunk_below_the_target_is_taken : (p : List ℕ) (records : ℕ) (c : Counted p records) (from to n b v : ℕ) → from ≤ to → to ≤ records → target ≤ limit → v ≡ values_size p from to
      → (body : ℕ) → body ≡ 34 * (n + (to - from)) + (b + v) → body < target → (e : Ended) → e ≡ record { cut = false; leaf = record { count = n + (to - from); bytes = b + v } }
      → e ≡ cut_sizes limit target n b (run (to - from) from (length_at p))
  a_chunk_below_the_target_is_taken p records c from to n b v o k t q body eq h e g =
      let xs : List ℕ = run (to - from) from (length_at p) in
      let m : length xs ≡ to - from = length_run (to - from) from (length_at p) in
      let s : v ≡ sum xs = q ∙ a_range_is_summed p records c from to o k in
      let d : cut_sizes limit target n b xs ≡ record { cut = false; leaf = record { count = n + length xs; bytes = b + sum xs } } =
      ap (cut_sizes limit target n b) (sym (append-nil xs)) ∙ records_below_the_target_are_taken xs [] n b t (omega (arith, m, s, eq)) ∙ unfold cut_sizes in refl in
      g ∙ rw s (ap (λ (k : ℕ). record { cut = false; leaf = record { count = n + k; bytes = b + sum xs } }) (sym m) ∙ sym d)
