-- What the functions over a list of entries do to one of them.
use Rattle.std.specs.Prelude.{◌||◌, cond, ℕ, ◌+◌, ltb}
use Rattle.leaf_work.specs.declared.Entry.{Entry}
use Rattle.leaf_work.specs.Lent.{an_insert, chunk_of}

-- an entry without its first `skip` records, where it has as many: an insert is one record, and of a chunk the others remain. The sum of their
-- values is not kept.
unfoldable pub behind_of : ℕ → Entry → Entry
behind_of skip e = cond (an_insert e || ltb e.to (e.from + skip)) e (chunk_of (e.from + skip) e.to 0)
