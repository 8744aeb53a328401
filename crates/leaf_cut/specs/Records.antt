-- The pending records from a cursor on. `page` is the page as the work regards it.
use Rattle.std.specs.Prelude.{List, ◌++◌, ℕ, take, drop}
use Rattle.leaf_node.specs.Record.{Record}
use Rattle.leaf_node.specs.Page.{count}
use Rattle.leaf_work.specs.declared.Work.{Work}
use Rattle.leaf_work.specs.declared.Entry.{Entry}
use Rattle.leaf_work.specs.Pending.{chunk_places, entry_places, places_of, records_held}
use Rattle.leaf_cut.specs.declared.Span.{Span}
use Rattle.leaf_cut.specs.declared.Cursor.{Cursor}
use Rattle.leaf_cut.specs.Sizes.{index_of}

abbrev pub span_of : Work → Span
span_of w = record { used = w.used; low = w.low }

abbrev pub first_cursor : Cursor
first_cursor = record { entry = 0; skip = 0 }

-- the entries' records, then the base's rest
unfoldable pub spanned_records : Span → List Entry → List ℕ → List ℕ → List Record
spanned_records s list store page = records_held store page (places_of page (take s.used list) ++ chunk_places page s.low (count page))

unfoldable pub records_from : Span → List Entry → List ℕ → List ℕ → Cursor → List Record
records_from s list store page at = drop (index_of list page at) (spanned_records s list store page)

-- those of one entry, behind the first `skip`
unfoldable pub entry_records : List ℕ → List ℕ → Entry → ℕ → List Record
entry_records store page e skip = drop skip (records_held store page (entry_places page e))
