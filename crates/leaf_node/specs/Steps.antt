-- What the functions below the public calls require of a page, as plain facts; `proofs/Reading.antt` has them of every good page.
use Rattle.std.specs.Prelude.{ℕ, ◌+◌, ◌≤◌, ◌<◌, ◌≡◌, List, length}
use Rattle.leaf_node.specs.Limits.{most_page_bytes}
use Rattle.leaf_node.specs.Page.{count, pointer, start}
use Rattle.leaf_node.specs.Good.{KeysRise}

-- the page has n records, and all of their pointers lie in it
pub record Pointed (p : List ℕ) (n : ℕ) : Type 0 where
  pub counted : n ≡ count p
  pub inside : pointer n ≤ length p

-- record i is there, and its value doesn't end before it begins
pub record Readable (p : List ℕ) (i : ℕ) : Type 0 where
  pub inside : pointer (count p) ≤ length p
  pub there : i < count p
  pub step : start p i ≤ start p (i + 1)

-- the values of the page's n records lie one behind the other, up to its end
pub record Laid (p : List ℕ) (n : ℕ) : Type 0 where
  pub counted : n ≡ count p
  pub inside : pointer n ≤ length p
  pub steps : (i : ℕ) → i < n → start p i ≤ start p (i + 1)

-- the keys of the page's n records rise
pub record Sorted (p : List ℕ) (n : ℕ) : Type 0 where
  pub counted : n ≡ count p
  pub inside : pointer n ≤ length p
  pub rise : KeysRise p

-- the page has n records, their values one behind the other; a page that is ignored has none
pub record Counted (p : List ℕ) (n : ℕ) : Type 0 where
  pub counted : n ≡ count p
  pub laid : 0 < n → Laid p n
  pub short : length p ≤ most_page_bytes
