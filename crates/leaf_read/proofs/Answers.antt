-- What the calls that read a page answer, by the page's verdict and what is found in it. Assumes nothing.
use Prim.Native.Nat.{ℕ, ◌≤◌, ◌<◌}
use mathlib.Core.Path.{◌≡◌, sym, ◌∙◌}
use mathlib.Core.List.{List}
use native.Mathlib.Omega.{arith}
use borrow.Author.Tests.{lt-ltb, le-ltb, eq-eqb, ne_eqb, le-leb, lt-leb}
use Rattle.std.specs.Prelude.{Result, Ok, Err}
use Rattle.leaf_node.specs.Page.{count, key_at, values_size}
use Rattle.leaf_node.specs.Good.{page_verdict}
use Rattle.leaf_node.specs.Search.{search_of}
use Rattle.leaf_node.specs.Cell.{cell_at}
use Rattle.leaf_node.specs.declared.Cell.{Cell}
use Rattle.leaf_node.proofs.Searches.{found_is}
use Rattle.leaf_read.specs.Reply.{index_verdict, range_verdict, key_reply, value_reply, size_reply, get_reply}

-- ---- reads by index: refused by the page, refused for the index, or answered

module _ (size : ℕ) (p : List ℕ) (i : ℕ) (v : ℕ) (e : v ≡ page_verdict size p) where
  pub index_page : (v ≡ 0 → ⊥) → v ≡ index_verdict size p i
  unfolding index_verdict
  index_page h = rw (← e) (simp (ne_eqb v 0 h))

  module _ (z : v ≡ 0) (n : ℕ) (q : n ≡ count p) where
    pub index_none : n ≤ i → 10 ≡ index_verdict size p i
    unfolding index_verdict
    index_none h = rw (← e) (simp (eq-eqb v 0 z, le-ltb i (count p) (omega arith)))

    pub index_some : i < n → 0 ≡ index_verdict size p i
    unfolding index_verdict
    index_some h = rw (← e) (simp (eq-eqb v 0 z, lt-ltb i (count p) (omega arith)))

module _ (size : ℕ) (p : List ℕ) (i : ℕ) (v : ℕ) (e : v ≡ index_verdict size p i) where
  pub key_refused : (v ≡ 0 → ⊥) → Err v ≡ key_reply size p i
  unfolding key_reply
  key_refused h = rw (← e) (simp (ne_eqb v 0 h))

  pub key_given : v ≡ 0 → (k : List ℕ) → k ≡ key_at p i → Ok k ≡ key_reply size p i
  unfolding key_reply
  key_given z k q = rw (← e) (simp (eq-eqb v 0 z, q))

  pub value_refused : (v ≡ 0 → ⊥) → Err v ≡ value_reply size p i
  unfolding value_reply
  value_refused h = rw (← e) (simp (ne_eqb v 0 h))

  pub value_given : v ≡ 0 → (c : Cell) → c ≡ cell_at p i → Ok c ≡ value_reply size p i
  unfolding value_reply
  value_given z c q = rw (← e) (simp (eq-eqb v 0 z, q))

-- ---- reads of a range

module _ (size : ℕ) (p : List ℕ) (from to : ℕ) (v : ℕ) (e : v ≡ page_verdict size p) where
  pub range_page : (v ≡ 0 → ⊥) → v ≡ range_verdict size p from to
  unfolding range_verdict
  range_page h = rw (← e) (simp (ne_eqb v 0 h))

  module _ (z : v ≡ 0) where
    pub range_empty : to ≤ from → 10 ≡ range_verdict size p from to
    unfolding range_verdict
    range_empty h = rw (← e) (simp (eq-eqb v 0 z, le-ltb from to h))

    module _ (h : from < to) (n : ℕ) (q : n ≡ count p) where
      pub range_long : n < to → 10 ≡ range_verdict size p from to
      unfolding range_verdict
      range_long k = rw (← e) (simp (eq-eqb v 0 z, lt-ltb from to h, lt-leb to (count p) (omega arith)))

      pub range_there : to ≤ n → 0 ≡ range_verdict size p from to
      unfolding range_verdict
      range_there k = rw (← e) (simp (eq-eqb v 0 z, lt-ltb from to h, le-leb to (count p) (omega arith)))

module _ (size : ℕ) (p : List ℕ) (from to : ℕ) (v : ℕ) (e : v ≡ range_verdict size p from to) where
  pub size_refused : (v ≡ 0 → ⊥) → Err v ≡ size_reply size p from to
  unfolding size_reply
  size_refused h = rw (← e) (simp (ne_eqb v 0 h))

  pub size_given : v ≡ 0 → (r : ℕ) → r ≡ values_size p from to → Ok r ≡ size_reply size p from to
  unfolding size_reply
  size_given z r q = rw (← e) (simp (eq-eqb v 0 z, q))

-- ---- the read of a key

module _ (size : ℕ) (p k : List ℕ) (v : ℕ) (e : v ≡ page_verdict size p) where
  pub get_refused : (v ≡ 0 → ⊥) → Err v ≡ get_reply size p k
  unfolding get_reply
  get_refused h = rw (← e) (simp (ne_eqb v 0 h))

  module _ (z : v ≡ 0) (s : Result ℕ ℕ) (q : s ≡ search_of p 0 k) (i : ℕ) where
    pub get_found : (c : Cell) → s ≡ Ok i → c ≡ cell_at p i → Ok (Ok c) ≡ get_reply size p k
    unfolding get_reply
    get_found c f r = rw (← e) (simp (eq-eqb v 0 z, ← q, f, r))

    pub get_absent : s ≡ Err i → Ok (Err i) ≡ get_reply size p k
    unfolding get_reply
    get_absent f = rw (← e) (simp (eq-eqb v 0 z, ← q, f))

    pub found_inside : s ≡ Ok i → i < count p
    found_inside f = (found_is p 0 k i (sym q ∙ f)).1
