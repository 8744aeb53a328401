-- What an ingest of the key k takes up and drops. Document 01, "A work and its turns". `page` is the page as the work regards it.
use Rattle.std.specs.Prelude.{Bool, true, false, ◌&&◌, ◌||◌, List, [], ◌∷◌, ◌++◌, ℕ, ◌+◌, ltb, length}
use Rattle.std.proofs.Math.Option.{Option, none, some}
use Rattle.leaf_node.specs.Record.{Record, total}
use Rattle.leaf_node.specs.Page.{count, flag_at, records_between, values_size}
use Rattle.leaf_node.specs.Search.{search_of, place_index, is_found}
use Rattle.leaf_model.specs.Work.{Change, inserted}
use Rattle.leaf_work.specs.declared.Work.{Work}
use Rattle.leaf_work.specs.declared.Entry.{Entry}
use Rattle.leaf_work.specs.Tests.{bit}
use Rattle.leaf_work.specs.Lent.{insert_at, chunk_of}

-- the value of a change; a deletion has none
abbrev pub value_of : Option Change → List ℕ
value_of none = []
value_of (some c) = c.value

-- ---- by what was found: base records `low` up to `stop` are taken up, and the one at `stop` is dropped or not

-- "The Rust calls `with_deleted_overflow` only when the dropped record has its flag set and at least one base record was taken up just before it
-- in the same call." Document 02, M-100, where `every` is set: "every dropped flagged record is reported, whether or not anything was taken up
-- before it, and nothing else is".
abbrev pub reports : Bool → ℕ → List ℕ → ℕ → Bool → Bool
reports every low page stop dropped = dropped && (flag_at page stop && (every || ltb low stop))

-- no empty chunk is listed; the values in it have `sum` bytes
abbrev pub chunk_entries : ℕ → ℕ → ℕ → List Entry
chunk_entries low stop sum = elim (ltb low stop) [ true ↦ chunk_of low stop sum ∷ [] | false ↦ [] ]

-- a new value stands in the store from `at` on
abbrev pub insert_entries : ℕ → List ℕ → Option Change → List Entry
insert_entries at k none = []
insert_entries at k (some c) = insert_at at (at + length c.value) k (bit c.flag) ∷ []

-- "the new one is pending behind them"
abbrev pub entries_with : Work → List ℕ → ℕ → ℕ → Option Change → List Entry
entries_with w k stop sum c = chunk_entries w.low stop sum ++ insert_entries w.filled k c

-- ---- by the key

module _ (w : Work) (page k : List ℕ) where
  -- "Base records below the key become pending": up to `stop`. The search is that of `get`, from `low` on.
  unfoldable pub stop : ℕ
  stop = place_index (search_of page w.low k)

  -- "an equal one is dropped"
  unfoldable pub drops : Bool
  drops = is_found (search_of page w.low k)

  abbrev pub low_after : ℕ
  low_after = stop + bit drops

  -- the base records that become pending, and the base's rest after that
  abbrev pub taken_up : List Record
  taken_up = records_between page w.low stop

  abbrev pub rest_after : List Record
  rest_after = records_between page low_after (count page)

  abbrev pub new_entries : Option Change → List Entry
  new_entries c = entries_with w k stop (values_size page w.low stop) c

  -- the gauge after it
  abbrev pub count_after : Option Change → ℕ
  count_after c = w.count + length taken_up + length (inserted k c)

  abbrev pub bytes_after : Option Change → ℕ
  bytes_after c = w.bytes + total taken_up + length (value_of c)
