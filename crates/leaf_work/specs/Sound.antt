-- "Work is sound when all of this holds": document 01, "Room and soundness", one test for each clause. `page` is the page as the work regards it.
use Rattle.std.specs.Prelude.{Bool, true, false, not, ◌&&◌, ◌||◌, List, [], ◌∷◌, ℕ, eqb, leb, ltb, length, take, drop}
use Rattle.std.proofs.Math.Option.{Option}
use Rattle.bit_ops.specs.Key.{lt_key}
use Rattle.leaf_node.specs.Limits.{value_limit, merge_below}
use Rattle.leaf_node.specs.Record.{Record, body, total}
use Rattle.leaf_node.specs.Page.{count, values_size}
use Rattle.leaf_model.specs.Basics.{nonempty}
use Rattle.leaf_model.specs.Work.{zero_key, above_last, below_cutoff, may_come, is_rising}
use Rattle.leaf_work.specs.declared.Work.{Work}
use Rattle.leaf_work.specs.declared.Entry.{Entry}
use Rattle.leaf_work.specs.Tests.{every, same_bytes, implies, is_zero, is_set}
use Rattle.leaf_work.specs.Lent.{an_insert, is_open, is_waiting, is_done, cutoff_of, last_of, separator_of, reads_base}
use Rattle.leaf_work.specs.Pending.{listed_of, rest_of, pending_of}

-- ---- entries

-- turn, kinds and flags are numbers, since any bytes may be lent: any other number than those named here is unsound
abbrev pub is_flag : ℕ → Bool
is_flag n = leb n 1

-- "unused entries .. are zero"
abbrev pub is_blank : Entry → Bool
is_blank e = is_zero e.kind && (is_zero e.from && (is_zero e.to && (is_zero e.sum && (same_bytes e.key zero_key && is_zero e.flag))))

-- "an insert with its place in the store"; "unused .. entry fields .. are zero"
abbrev pub is_insert : Entry → Bool
is_insert e = an_insert e && (leb e.from e.to && (is_zero e.sum && is_flag e.flag))

-- "chunks are nonempty and lie in the passed part"
abbrev pub lies_in_passed_part : ℕ → Entry → Bool
lies_in_passed_part low e = ltb e.from e.to && leb e.to low

-- "or a chunk of the base"; its sum agrees
abbrev pub is_chunk : ℕ → List ℕ → Entry → Bool
is_chunk low page e =
    eqb e.kind 2 && (lies_in_passed_part low e && (eqb e.sum (values_size page e.from e.to) && (same_bytes e.key zero_key && is_zero e.flag)))

abbrev pub is_operation : ℕ → List ℕ → Entry → Bool
is_operation low page e = is_insert e || is_chunk low page e

-- "Insert values stand in the store from its start, in list order, without holes": the first one begins at `at`, the last one ends at `end`
abbrev pub placed : ℕ → ℕ → List Entry → Bool
placed end at [] = eqb at end
placed end at (e ∷ es) = elim (an_insert e) [
  | true ↦ elim (eqb e.from at) [ true ↦ placed end e.to es | false ↦ false ]
  | false ↦ placed end at es
]

abbrev pub some_insert : List Entry → Bool
some_insert [] = false
some_insert (e ∷ es) = elim (an_insert e) [ true ↦ true | false ↦ some_insert es ]

-- ---- keys

-- each record's key is at or above a separator and below a cutoff, where there is one
abbrev pub keys_within : List ℕ → Option (List ℕ) → List Record → Bool
keys_within separator cutoff rs = every (λ r. not (lt_key r.key separator) && below_cutoff cutoff r.key) rs

-- No. 13 lets the key in: it isn't below the floor, and is above the last key taken
abbrev pub lets_in : Work → List ℕ → Bool
lets_in w k = may_come w.floor (last_of w) k

-- the greatest key, where keys rise, is itself not let in
abbrev pub past_all : Work → List Record → Bool
past_all w [] = true
past_all w (r ∷ []) = not (lets_in w r.key)
past_all w (r ∷ q ∷ rs) = past_all w (q ∷ rs)

-- ---- the clauses on the work record alone

abbrev pub known_turn : Work → Bool
known_turn w = is_open w || is_waiting w || is_done w

abbrev pub known_flags : Work → Bool
known_flags w = is_flag w.mode && (is_flag w.based && (is_flag w.cut && (is_flag w.over && is_flag w.taken)))

-- "the last key taken is below the cutoff"
abbrev pub last_below : Work → Bool
last_below w = implies (is_set w.taken) (below_cutoff (cutoff_of w) w.last)

-- "a cutoff comes with a base and is above its separator"
abbrev pub cutoff_right : Work → Bool
cutoff_right w = implies (is_set w.cut) (is_set w.based && lt_key w.latest w.cutoff)

-- The floor: "keys must .. be at or above the base's separator, and after a merge request at or above the cutoff it named". It is at or
-- above the current separator, and the latest base's, which is the current one when a digest clears the override.
abbrev pub floor_above : Work → Bool
floor_above w = not (lt_key w.floor (separator_of w)) && not (lt_key w.floor w.latest)

-- open with a base it is the base's separator, waiting it is the cutoff
abbrev pub floor_at_turn : Work → Bool
floor_at_turn w = implies (reads_base w) (same_bytes w.floor w.latest) && implies (is_waiting w) (same_bytes w.floor w.cutoff)

-- "`Option<Key>`: a flag beside a key, zeros when absent"
abbrev pub absent_zero : Work → Bool
absent_zero w =
    implies (not (is_set w.cut)) (same_bytes w.cutoff zero_key)
    && (implies (not (is_set w.over)) (same_bytes w.overriding zero_key) && implies (not (is_set w.taken)) (same_bytes w.last zero_key))

-- ---- the clauses on what it is lent with

module _ (size : ℕ) (w : Work) (list : List Entry) (store page : List ℕ) where
  -- "Entries are the Rust's operations in the Rust's order", "unused entries .. are zero"
  abbrev pub operations : Bool
  operations = leb w.used (length list) && (every (is_operation w.low page) (take w.used list) && every is_blank (drop w.used list))

  -- "Insert values stand in the store from its start", "unused .. bytes are zero"
  abbrev pub stored : Bool
  stored = leb w.filled (length store) && (placed w.filled 0 (take w.used list) && every is_zero (drop w.filled store))

  -- "Pending records, the base's rest included, may number at most the list's length, and their values at most the store's."
  abbrev pub roomy : Bool
  roomy = leb (length (pending_of w list store page)) (length list) && leb (total (pending_of w list store page)) (length store)

  -- "keys rise through the list and on into the base's rest"
  abbrev pub risen : Bool
  risen = is_rising (pending_of w list store page)

  -- "that rest lies above the last key taken"
  abbrev pub rest_above : Bool
  rest_above = every (λ r. above_last (last_of w) r.key) (rest_of w store page)

  -- "every listed key lies below each key that No. 13 still lets in"
  abbrev pub listed_past : Bool
  listed_past = past_all w (listed_of w list store page)

  -- the passed part is a part of the base; where the page is ignored `low` is 0
  abbrev pub passed_part : Bool
  passed_part = leb w.low (count page)

  -- "listed values are at most 1,332 bytes"
  abbrev pub listed_fits : Bool
  listed_fits = every (λ r. leb (length r.value) (value_limit size)) (listed_of w list store page)

  -- "counts and sums agree"
  abbrev pub gauged : Bool
  gauged = eqb w.count (length (listed_of w list store page)) && eqb w.bytes (total (listed_of w list store page))

  -- "every pending key is at or above the current separator and below the cutoff"
  abbrev pub bounded : Bool
  bounded = keys_within (separator_of w) (cutoff_of w) (pending_of w list store page)

  -- "an override comes with listed inserts"
  abbrev pub override_right : Bool
  override_right = implies (is_set w.over) (some_insert (take w.used list))

  -- "a waiting work has only inserts, an override, a cutoff and a body above 0 and under 2,047"
  abbrev pub waiting_right : Bool
  waiting_right = implies (is_waiting w) (
      every an_insert (take w.used list)
      && (is_set w.over && (is_set w.cut && (ltb 0 (body (listed_of w list store page)) && ltb (body (listed_of w list store page)) (merge_below size))))
      )

  -- "a done work has nothing pending"
  abbrev pub done_right : Bool
  done_right = implies (is_done w) (not (nonempty (pending_of w list store page)))

  -- "all of this holds"
  unfoldable pub sound : Bool
  sound =
      every (λ b. b) (
      known_turn w
      ∷ known_flags w
      ∷ operations
      ∷ stored
      ∷ roomy
      ∷ risen
      ∷ rest_above
      ∷ listed_past
      ∷ passed_part
      ∷ listed_fits
      ∷ gauged
      ∷ bounded
      ∷ last_below w
      ∷ cutoff_right w
      ∷ override_right
      ∷ waiting_right
      ∷ done_right
      ∷ floor_above w
      ∷ floor_at_turn w
      ∷ absent_zero w
      ∷ []
      )
