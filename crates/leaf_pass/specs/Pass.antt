-- The entries one by one, each held against what was seen before it: the pass in which the code tests a list. `proofs/Walks.antt` says what
-- the entries of a pass that found nothing wrong come to.
use Rattle.std.specs.Prelude.{Bool, true, false, not, cond, ◌&&◌, List, [], ◌∷◌, ℕ, ◌+◌, ◌-◌, ◌*◌, ◌≤◌, eqb, leb, ltb, Option, Some, None, option_and_then}
use Rattle.bit_ops.specs.Key.{lt_key}
use Rattle.leaf_node.specs.Page.{key_at, values_size}
use Rattle.leaf_model.specs.Work.{zero_key}
use Rattle.leaf_work.specs.declared.Entry.{Entry}
use Rattle.leaf_work.specs.Tests.{same_bytes, is_zero}
use Rattle.leaf_work.specs.Lent.{most_entries, most_store_bytes, an_insert}
use Rattle.leaf_work.specs.Sound.{is_flag, is_blank}
use Rattle.leaf_pass.specs.declared.Tally.{Tally}
use Rattle.leaf_pass.specs.declared.Bounds.{Bounds}

-- ---- what the types say

-- the passed part is a part of the base's n records, and no more entries and store bytes are used than a call takes
pub record Seeing (b : Bounds) (n : ℕ) : Type 0 where
  pub low_in : b.low ≤ n
  pub used_few : b.used ≤ most_entries
  pub filled_few : b.filled ≤ most_store_bytes

-- nothing that the pass counts comes near the largest number
pub record Small (z : Tally) : Type 0 where
  pub seen : z.seen ≤ most_entries
  pub inserts : z.inserts ≤ z.seen
  pub count : z.count ≤ 65536 * z.seen
  pub bytes : z.bytes ≤ 65536 * z.seen

-- ---- one entry

-- a key behind the records seen: above the last one; the first at or above the separator
abbrev pub is_behind : ℕ → List ℕ → List ℕ → Bool
is_behind count last k = elim (is_zero count) [ true ↦ not (lt_key k last) | false ↦ lt_key last k ]

-- an insert where it stands
unfoldable pub insert_right : Bounds → Tally → Entry → Bool
insert_right b z e =
    (leb e.from e.to && (is_zero e.sum && is_flag e.flag))
    && ((eqb e.from z.end && (leb e.to b.filled && leb (e.to - e.from) b.most)) && is_behind z.count z.last e.key)

unfoldable pub chunk_lies : ℕ → Entry → Bool
chunk_lies low e = eqb e.kind 2 && (ltb e.from e.to && (leb e.to low && (same_bytes e.key zero_key && is_zero e.flag)))

-- a chunk where it stands
unfoldable pub chunk_right : Bounds → List ℕ → Tally → Entry → Bool
chunk_right b page z e = chunk_lies b.low e && (eqb e.sum (values_size page e.from e.to) && is_behind z.count z.last (key_at page e.from))

abbrev pub with_insert : Tally → Entry → Tally
with_insert z e = record {
  seen = z.seen + 1;
  inserts = z.inserts + 1;
  end = e.to;
  count = z.count + 1;
  bytes = z.bytes + (e.to - e.from);
  last = e.key;
}

abbrev pub with_chunk : List ℕ → Tally → Entry → Tally
with_chunk page z e = record {
  seen = z.seen + 1;
  inserts = z.inserts;
  end = z.end;
  count = z.count + (e.to - e.from);
  bytes = z.bytes + e.sum;
  last = key_at page (e.to - 1);
}

-- one entry more, or nothing where it is wrong
abbrev pub insert_passed : Bounds → Tally → Entry → Option Tally
insert_passed b z e = cond (insert_right b z e) (Some (with_insert z e)) None

abbrev pub chunk_passed : Bounds → List ℕ → Tally → Entry → Option Tally
chunk_passed b page z e = cond (chunk_right b page z e) (Some (with_chunk page z e)) None

abbrev pub blank_passed : Tally → Entry → Option Tally
blank_passed z e = cond (is_blank e) (Some z) None

-- the pass after one more entry, by what was seen: not all used entries; and by its kind: an insert
abbrev pub passed_by : Bounds → List ℕ → Tally → Entry → Bool → Bool → Option Tally
passed_by b page z e false an_insert = blank_passed z e
passed_by b page z e true true = insert_passed b z e
passed_by b page z e true false = chunk_passed b page z e

unfoldable pub passed : Bounds → List ℕ → Tally → Entry → Option Tally
passed b page z e = passed_by b page z e (ltb z.seen b.used) (an_insert e)

-- ---- the list

-- an entry that is wrong ends the pass
abbrev pub passed_all : Bounds → List ℕ → Tally → List Entry → Option Tally
passed_all b page z [] = Some z
passed_all b page z (e ∷ es) = option_and_then (λ y. passed_all b page y es) (passed b page z e)

abbrev pub begun : List ℕ → Tally
begun separator = record { seen = 0; inserts = 0; end = 0; count = 0; bytes = 0; last = separator }
