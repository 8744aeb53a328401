-- The key of an entry's record: what reading it requires.
use Rattle.std.specs.Prelude.{◌≡◌, List, ℕ, ◌+◌, ◌≤◌, length}
use Rattle.leaf_node.specs.Page.{pointer}
use Rattle.leaf_work.specs.declared.Entry.{Entry}

-- a chunk's first record behind the first `skip` has a pointer in the page
pub record KeyAsked (page : List ℕ) (e : Entry) (skip : ℕ) : Type 0 where
  pub chunk : (e.kind ≡ 1 → ⊥) → pointer (e.from + skip + 1) ≤ length page
