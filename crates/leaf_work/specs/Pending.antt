-- The pending records and the places of their values: the listed ones, then the base's rest. Document 01, "Room and soundness".
-- `page` is the page as the work regards it.
use Rattle.std.specs.Prelude.{Bool, true, false, List, [], ◌∷◌, ◌++◌, map, ℕ, ◌-◌, take, drop}
use Rattle.leaf_node.specs.Record.{Record}
use Rattle.leaf_node.specs.Page.{count, start, length_at, flag_at, key_at, run}
use Rattle.leaf_work.specs.declared.Work.{Work}
use Rattle.leaf_work.specs.declared.Entry.{Entry}
use Rattle.leaf_work.specs.Tests.{is_set}
use Rattle.leaf_work.specs.Lent.{an_insert}

-- "The value of a pending record is handed back as a part of whichever of the two holds it, store or base page."
pub data Holder : Type 0 where
  Store Base : Holder

-- "A twin call answers holder, offset, length, key and flag"
pub record Place : Type 0 where
  pub holder : Holder
  pub offset : ℕ
  pub size : ℕ
  pub key : List ℕ
  pub flag : Bool

abbrev pub held_by : Holder → List ℕ → List ℕ → List ℕ
held_by Store store page = store
held_by Base store page = page

-- the part of store or page that a place names
abbrev pub part_at : List ℕ → List ℕ → Place → List ℕ
part_at store page x = take x.size (drop x.offset (held_by x.holder store page))

unfoldable pub held : List ℕ → List ℕ → Place → Record
held store page x = record { key = x.key; value = part_at store page x; flag = x.flag }

-- record i of the base
unfoldable pub in_base : List ℕ → ℕ → Place
in_base page i = record { holder = Base; offset = start page i; size = length_at page i; key = key_at page i; flag = flag_at page i }

-- base records `from` up to, not including, `to`
unfoldable pub chunk_places : List ℕ → ℕ → ℕ → List Place
unfolding run in_base
chunk_places page from to = run (to - from) from (in_base page)

abbrev pub insert_place : Entry → Place
insert_place e = record { holder = Store; offset = e.from; size = e.to - e.from; key = e.key; flag = is_set e.flag }

-- an insert is one record, a chunk those of the base that it names
unfoldable pub entry_places : List ℕ → Entry → List Place
unfolding chunk_places
entry_places page e = elim (an_insert e) [ true ↦ insert_place e ∷ [] | false ↦ chunk_places page e.from e.to ]

-- how many that is: of an insert or else a chunk, `from` up to `to`
abbrev pub records_by : Bool → ℕ → ℕ → ℕ
records_by true from to = 1
records_by false from to = to - from

abbrev pub records_in : Entry → ℕ
records_in e = records_by (an_insert e) e.from e.to

abbrev pub places_of : List ℕ → List Entry → List Place
places_of page [] = []
places_of page (e ∷ es) = entry_places page e ++ places_of page es

abbrev pub listed_places : Work → List Entry → List ℕ → List Place
listed_places w list page = places_of page (take w.used list)

abbrev pub rest_places : Work → List ℕ → List Place
rest_places w page = chunk_places page w.low (count page)

abbrev pub pending_places : Work → List Entry → List ℕ → List Place
pending_places w list page = listed_places w list page ++ rest_places w page

-- ---- the records at these places

abbrev pub records_held : List ℕ → List ℕ → List Place → List Record
records_held store page xs = map (held store page) xs

abbrev pub listed_of : Work → List Entry → List ℕ → List ℕ → List Record
listed_of w list store page = records_held store page (listed_places w list page)

abbrev pub rest_of : Work → List ℕ → List ℕ → List Record
rest_of w store page = records_held store page (rest_places w page)

abbrev pub pending_of : Work → List Entry → List ℕ → List ℕ → List Record
pending_of w list store page = records_held store page (pending_places w list page)
