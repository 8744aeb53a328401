-- Computed examples on pages of 200 bytes, where all limits are small: a row of three leaves under changes, one record for each rule, so that a wrong definition fails in the part that
-- is about it. Assumes nothing.
use mathlib.Core.Path.{◌≡◌, refl}
use mathlib.Core.Bool.{true}
use mathlib.Core.Option.{Option, none, some}
use mathlib.Core.List.{List, [], ◌∷◌}
use Prim.Native.Nat.{ℕ}
use lib.ListN.{replicate}
use Rattle.bit_ops.specs.Key.{num, bytes_of, lt_key, eq_key}
use Rattle.bit_ops.specs.Steps.{zeros}
use Rattle.bit_ops.specs.Separate.{shared, shared_bits, leading, separate_of}
use Rattle.leaf_node.specs.Limits.{body_limit, record_limit, value_limit, merge_below, bulk_above, bulk_target}
use Rattle.leaf_node.specs.Record.{Record, values, total}
use Rattle.leaf_node.specs.Page.{word, count, key_at, number_at, flag_at, offset_at, start, length_at, value_at, record_at, run, records_between, records}
use Rattle.leaf_node.specs.Good.{all_below, offset_step, offset_inside, offsets_right, value_fits, values_fit, key_step, keys_rise, page_verdict}
use Rattle.leaf_node.specs.Search.{place_from, search_of}
use Rattle.leaf_node.specs.Cell.{cell_at}
use Rattle.leaf_node.specs.Build.{le16, tagged, pointers, build}
use Rattle.leaf_read.specs.Reply.{get_reply}
use Rattle.leaf_model.specs.Cut.{target_of, cut, cut_all}
use Rattle.leaf_model.specs.Work.{Change, plan}
use Rattle.row_turns.specs.Row.{RowLeaf, is_from_zero, row_tickets}
use Rattle.row_turns.specs.Changes.{Edit, inserted_body, row_pages_asked}
use Rattle.row_turns.specs.Turns.{Turned, room_verdict, row_turned}
use Rattle.row_turns.specs.Lookup.{lookup}

abbrev size : ℕ
size = 200

-- a key that starts with the byte b
abbrev key_of : ℕ → List ℕ
key_of b = b ∷ zeros 31

abbrev record_of : ℕ → Record
record_of k = record { key = key_of k; value = replicate 30 k; flag = true }

abbrev leaf_of : ℕ → List Record → RowLeaf
leaf_of s rs = record { separator = key_of s; page = build size rs }

abbrev deletes : ℕ → Edit
deletes k = record { key = key_of k; change = none }

abbrev puts : ℕ → Edit
puts k = record { key = key_of k; change = some (record { value = replicate 30 k; flag = true }) }

-- two records to a leaf have a body of 128, one of 64, and under 99 it waits for a merge
abbrev first_leaf : RowLeaf
first_leaf = leaf_of 0 (record_of 10 ∷ record_of 20 ∷ [])

abbrev middle_leaf : RowLeaf
middle_leaf = leaf_of 40 (record_of 50 ∷ record_of 60 ∷ [])

abbrev last_leaf : RowLeaf
last_leaf = leaf_of 80 (record_of 90 ∷ record_of 100 ∷ [])

abbrev row : List RowLeaf
row = first_leaf ∷ middle_leaf ∷ last_leaf ∷ []

abbrev after : List Edit → Turned
after es = row_turned size 6 200 row es

abbrev new_row : List Edit → List RowLeaf
new_row es = is_from_zero (after es).row

-- "Load only leaves whose range takes a change's key": the cutoff itself is the next leaf's
pub record Ranges : Type 0 where
  pub nothing_is_loaded : new_row [] ≡ row
  pub at_the_cutoff : new_row (puts 80 ∷ []) ≡ first_leaf ∷ middle_leaf ∷ leaf_of 80 (record_of 80 ∷ record_of 90 ∷ record_of 100 ∷ []) ∷ []
  pub below_the_cutoff : new_row (puts 79 ∷ []) ≡ first_leaf ∷ leaf_of 40 (record_of 50 ∷ record_of 60 ∷ record_of 79 ∷ []) ∷ last_leaf ∷ []

pub which_leaf_takes_a_change : Ranges
unfolding num bytes_of lt_key eq_key shared shared_bits leading separate_of body_limit record_limit value_limit merge_below bulk_above bulk_target values total word count key_at number_at flag_at offset_at start length_at value_at record_at run records_between records le16 tagged pointers build target_of cut cut_all plan
which_leaf_takes_a_change = record { nothing_is_loaded = refl; at_the_cutoff = refl; below_the_cutoff = refl }

-- "or that a merge asks for": what waits begins where it began
pub record Merges : Type 0 where
  pub with_the_last_leaf : new_row (deletes 60 ∷ []) ≡ first_leaf ∷ leaf_of 40 (record_of 50 ∷ record_of 90 ∷ record_of 100 ∷ []) ∷ []
  pub with_the_middle_leaf : new_row (deletes 20 ∷ []) ≡ leaf_of 0 (record_of 10 ∷ record_of 50 ∷ record_of 60 ∷ []) ∷ last_leaf ∷ []

pub a_merge_loads_the_next_leaf : Merges
unfolding num bytes_of lt_key eq_key shared shared_bits leading separate_of body_limit record_limit value_limit merge_below bulk_above bulk_target values total word count key_at number_at flag_at offset_at start length_at value_at record_at run records_between records le16 tagged pointers build target_of cut cut_all plan
a_merge_loads_the_next_leaf = record { with_the_last_leaf = refl; with_the_middle_leaf = refl }

-- "A wiped leaf vanishes; the first remaining leaf gets the zero separator"
pub record Wiped : Type 0 where
  pub the_middle : new_row (deletes 50 ∷ deletes 60 ∷ []) ≡ first_leaf ∷ last_leaf ∷ []
  pub its_tickets : row_tickets (new_row (deletes 50 ∷ deletes 60 ∷ []))
      ≡ record { separator = key_of 0; cutoff = some (key_of 80) } ∷ record { separator = key_of 80; cutoff = none } ∷ []
  pub the_first : new_row (deletes 10 ∷ deletes 20 ∷ []) ≡ leaf_of 0 (record_of 50 ∷ record_of 60 ∷ []) ∷ last_leaf ∷ []

pub a_wiped_leaf_vanishes : Wiped
unfolding num bytes_of lt_key eq_key shared shared_bits leading separate_of body_limit record_limit value_limit merge_below bulk_above bulk_target values total word count key_at number_at flag_at offset_at start length_at value_at record_at run records_between records le16 tagged pointers build target_of cut cut_all plan
a_wiped_leaf_vanishes = record { the_middle = refl; its_tickets = refl; the_first = refl }

-- "an empty row opens without a base, and a row may end empty"
pub record Empty : Type 0 where
  pub opens : (row_turned size 6 200 [] (deletes 1 ∷ puts 5 ∷ [])).row ≡ leaf_of 0 (record_of 5 ∷ []) ∷ []
  pub stays : (row_turned size 6 200 [] (deletes 1 ∷ [])).row ≡ []
  pub ends : new_row (deletes 10 ∷ deletes 20 ∷ deletes 50 ∷ deletes 60 ∷ deletes 90 ∷ deletes 100 ∷ []) ≡ []

pub rows_may_be_empty : Empty
unfolding num bytes_of lt_key eq_key shared shared_bits leading separate_of body_limit record_limit value_limit merge_below bulk_above bulk_target values total word count key_at number_at flag_at offset_at start length_at value_at record_at run records_between records le16 tagged pointers build target_of cut cut_all plan
rows_may_be_empty = record { opens = refl; stays = refl; ends = refl }

-- "on 15 or 16 in the middle": 15 first, and a merge asks for room too
pub record Rooms : Type 0 where
  pub both_are_full : room_verdict 2 10 (record_of 1 ∷ record_of 2 ∷ record_of 3 ∷ []) ≡ 15
  pub the_store_is_full : room_verdict 3 89 (record_of 1 ∷ record_of 2 ∷ record_of 3 ∷ []) ≡ 16
  pub both_have_room : room_verdict 3 90 (record_of 1 ∷ record_of 2 ∷ record_of 3 ∷ []) ≡ 0
  pub at_a_change : (row_turned size 2 200 row (puts 70 ∷ [])).number ≡ 15
  pub at_a_merge : (row_turned size 2 200 row (deletes 60 ∷ [])).number ≡ 15

pub the_room_in_the_middle : Rooms
unfolding num bytes_of lt_key eq_key shared shared_bits leading separate_of body_limit record_limit value_limit merge_below bulk_above bulk_target values total word count key_at number_at flag_at offset_at start length_at value_at record_at run records_between records le16 tagged pointers build target_of cut cut_all plan
the_room_in_the_middle = record { both_are_full = refl; the_store_is_full = refl; both_have_room = refl; at_a_change = refl; at_a_merge = refl }

-- "twice the old pages, plus the inserted bodies / 2047 rounded up"
pub record Asks : Type 0 where
  pub nothing_changes : row_pages_asked 4096 1 (inserted_body []) ≡ 2
  pub one_change : row_pages_asked 4096 1 (inserted_body (deletes 1 ∷ puts 2 ∷ [])) ≡ 3
  pub one_whole : row_pages_asked 4096 16 2047 ≡ 33
  pub one_more : row_pages_asked 4096 16 2048 ≡ 34

pub the_pages_asked : Asks
unfolding body_limit merge_below
the_pages_asked = record { nothing_changes = refl; one_change = refl; one_whole = refl; one_more = refl }

-- "the change if there is one, else the old value and flag, or absence"
abbrev found : ℕ → List RowLeaf → Option Change
found k xs = lookup size (key_of k) xs

pub record Lookups : Type 0 where
  pub the_change : found 80 (new_row (puts 80 ∷ [])) ≡ some (record { value = replicate 30 80; flag = true })
  pub the_old_value : found 60 (new_row (puts 80 ∷ [])) ≡ some (record { value = replicate 30 60; flag = true })
  pub deleted : found 60 (new_row (deletes 60 ∷ [])) ≡ none
  pub absent : found 40 (new_row (deletes 60 ∷ [])) ≡ none

pub lookups_in_a_new_row : Lookups
unfolding num bytes_of lt_key eq_key shared shared_bits leading separate_of body_limit record_limit value_limit merge_below bulk_above bulk_target values total word count key_at number_at flag_at offset_at start length_at value_at record_at run records_between records all_below offset_step offset_inside offsets_right value_fits values_fit key_step keys_rise page_verdict place_from search_of cell_at le16 tagged pointers build target_of cut cut_all plan get_reply
lookups_in_a_new_row = record { the_change = refl; the_old_value = refl; deleted = refl; absent = refl }
