-- The body that leaves aim at, by the pending one. Assumes nothing.
use mathlib.Core.Path.{◌≡◌}
use Rattle.std.specs.Prelude.{None, Some}
use Prim.Native.Nat.{ℕ, ◌/◌, ◌≤◌, ◌<◌}
use borrow.Author.Tests.{lt-ltb, le-ltb}
use Rattle.leaf_node.specs.Limits.{body_limit, bulk_above, bulk_target}
use Rattle.leaf_model.specs.Cut.{target_of}

-- ---- the target

module _ (size b above : ℕ) (e : above ≡ bulk_above size) where
  pub many_records_are_cut_in_bulk : above < b → (target : ℕ) → target ≡ bulk_target size → Some target ≡ target_of size b
  unfolding target_of
  many_records_are_cut_in_bulk h target q = rw (target_of, ← e, lt-ltb above b h, q)

  module _ (h : b ≤ above) (limit : ℕ) (q : limit ≡ body_limit size) where
    pub fewer_records_are_halved : limit < b → Some (b / 2) ≡ target_of size b
    unfolding target_of
    fewer_records_are_halved k = rw (target_of, ← e, le-ltb above b h, ← q, lt-ltb limit b k)

    pub few_records_are_not_cut : b ≤ limit → None ≡ target_of size b
    unfolding target_of
    few_records_are_not_cut k = rw (target_of, ← e, le-ltb above b h, ← q, le-ltb limit b k)
