-- Cutting looks at nothing but how long the values are. The pending records by these lengths, and where a leaf ends among them;
-- `proofs/Records.antt` shows that this is document 01's cutting of the records.
use Rattle.std.specs.Prelude.{true, false, cond, List, [], ◌∷◌, ◌++◌, map, ℕ, zero, suc, ◌+◌, ◌-◌, ◌*◌, eqb, leb, ltb, length, drop}
use Rattle.leaf_node.specs.Record.{Record}
use Rattle.leaf_node.specs.Page.{count, length_at, run}
use Rattle.leaf_work.specs.declared.Entry.{Entry}
use Rattle.leaf_work.specs.Lent.{an_insert}
use Rattle.leaf_work.specs.Pending.{records_by}
use Rattle.leaf_cut.specs.declared.Gauge.{Gauge}
use Rattle.leaf_cut.specs.declared.Ended.{Ended}
use Rattle.leaf_cut.specs.declared.Span.{Span}
use Rattle.leaf_cut.specs.declared.Cursor.{Cursor}

abbrev pub sizes : List Record → List ℕ
sizes rs = map (λ r. length r.value) rs

unfoldable pub sum : List ℕ → ℕ
sum [] = 0
sum (x ∷ xs) = x + sum xs

-- ---- where a leaf ends

-- "Cutting takes records in order until the leaf's body reaches the target. A record that would pass 4,094 is left, and ends the leaf below
-- target." The leaf has n records with b bytes so far.
unfoldable pub cut_sizes : ℕ → ℕ → ℕ → ℕ → List ℕ → Ended
cut_sizes limit target n b [] = record { cut = false; leaf = record { count = n; bytes = b } }
cut_sizes limit target n b (s ∷ ss) = elim (ltb limit (34 * (n + 1) + (b + s))) [
  | true ↦ record { cut = true; leaf = record { count = n; bytes = b } }
  | false ↦ elim (leb target (34 * (n + 1) + (b + s))) [
    | true ↦ record { cut = true; leaf = record { count = n + 1; bytes = b + s } }
    | false ↦ cut_sizes limit target (n + 1) (b + s) ss
  ]
]

-- a leaf's body: "n pointers of 34 bytes" and the values
abbrev pub body_of : Gauge → ℕ
body_of g = 34 * g.count + g.bytes

-- ---- the pending records

-- an insert is one record, a chunk those of the base that it names
unfoldable pub entry_sizes : List ℕ → Entry → List ℕ
entry_sizes page e = cond (an_insert e) ((e.to - e.from) ∷ []) (run (e.to - e.from) e.from (length_at page))

-- those of the first entries
unfoldable pub listed_sizes : List ℕ → ℕ → List Entry → List ℕ
listed_sizes page zero list = []
listed_sizes page (suc n) [] = []
listed_sizes page (suc n) (e ∷ es) = entry_sizes page e ++ listed_sizes page n es

unfoldable pub pending_sizes : List Entry → List ℕ → Span → List ℕ
pending_sizes list page s = listed_sizes page s.used list ++ run (count page - s.low) s.low (length_at page)

-- how many pending records stand before a cursor
unfoldable pub index_of : List Entry → List ℕ → Cursor → ℕ
index_of list page at = length (listed_sizes page at.entry list) + at.skip

unfoldable pub sizes_from : List Entry → List ℕ → Span → Cursor → List ℕ
sizes_from list page s at = drop (index_of list page at) (pending_sizes list page s)

-- ---- an entry behind the first `skip` of its records

unfoldable pub sizes_behind : List ℕ → Entry → ℕ → List ℕ
sizes_behind page e skip = cond (an_insert e) ((e.to - e.from) ∷ []) (run (e.to - (e.from + skip)) (e.from + skip) (length_at page))

unfoldable pub count_behind : Entry → ℕ → ℕ
count_behind e skip = records_by (an_insert e) (e.from + skip) e.to

-- ---- moving on

-- behind `taken` of the `all` records that an entry has from the cursor on
unfoldable pub passed_by : Cursor → ℕ → ℕ → Cursor
passed_by at all taken = cond (eqb taken all) (record { entry = at.entry + 1; skip = 0 }) (record { entry = at.entry; skip = at.skip + taken })
