-- Computed examples on pages of 98 bytes, which take two records without values: each number of a row at its edge, and the lowest where several apply. Assumes nothing.
use mathlib.Core.Path.{◌≡◌, refl}
use mathlib.Core.Bool.{false}
use mathlib.Core.List.{List, [], ◌∷◌, ◌++◌}
use Prim.Native.Nat.{ℕ}
use lib.ListN.{replicate}
use Rattle.bit_ops.specs.Key.{num, bytes_of, lt_key, eq_key}
use Rattle.bit_ops.specs.Separate.{shared, shared_bits, leading, separate_of}
use Rattle.bit_ops.specs.Steps.{zeros}
use Rattle.leaf_node.specs.Limits.{body_limit, record_limit, value_limit, merge_below, bulk_above, bulk_target}
use Rattle.leaf_node.specs.Record.{Record, values, total}
use Rattle.leaf_node.specs.Page.{word, count, key_at, number_at, flag_at, offset_at, start, length_at, value_at, record_at, run, records_between, records}
use Rattle.leaf_node.specs.Good.{all_below, offset_step, offset_inside, offsets_right, value_fits, values_fit, key_step, keys_rise, page_verdict}
use Rattle.leaf_node.specs.Build.{le16, tagged, pointers, build}
use Rattle.leaf_model.specs.Cut.{target_of, cut, cut_all}
use Rattle.leaf_model.specs.Work.{plan}
use Rattle.leaf_work.specs.declared.Entry.{Entry}
use Rattle.leaf_work.specs.Lent.{blank, insert_at}
use Rattle.leaf_work.specs.Verdict.{base_verdict}
use Rattle.row_changes.specs.Packed.{key_of, is_put, flag_of, length_of, value_length}
use Rattle.row_changes.specs.Tests.{put_body}
use Rattle.row_check.specs.Outcome.{RowOutcome, row_outcome}
use Rattle.row_check.specs.Verdict.{lower, lent_row_verdict, call_verdict, row_verdict}

abbrev key : ℕ → List ℕ
key b = b ∷ zeros 31

-- a page of records without values
abbrev records_of : List ℕ → List Record
records_of [] = []
records_of (k ∷ ks) = record { key = key k; value = []; flag = false } ∷ records_of ks

abbrev page : List ℕ → List ℕ
page ks = build 98 (records_of ks)

-- a page whose keys fall, No. 5, and one of three records, No. 2
abbrev falling : List ℕ
falling = page (20 ∷ 10 ∷ [])

abbrev crowded : List ℕ
crowded = 3 ∷ zeros 97

-- an entry of the changes: a put of so many bytes
abbrev puts : ℕ → ℕ → List ℕ
puts b len = key b ++ (1 ∷ 0 ∷ 0 ∷ 0 ∷ len ∷ 0 ∷ 0 ∷ 0 ∷ [])

-- a row alone
abbrev row_of : List ℕ → List (List ℕ) → ℕ
row_of pages separators = lent_row_verdict 98 pages separators

pub record Rows : Type 0 where
  pub right : row_of (page (10 ∷ 20 ∷ []) ++ page (50 ∷ [])) (key 0 ∷ key 50 ∷ []) ≡ 0
  pub no_page : row_of [] [] ≡ 0
  -- "a row not of whole pages or without one separator each"
  pub part_of_a_page : row_of (zeros 97) (key 0 ∷ []) ≡ 1
  pub no_separator : row_of (zeros 98) [] ≡ 1
  pub no_page_for_it : row_of [] (key 0 ∷ []) ≡ 1
  -- the lowest number over all pages
  pub second_page_first : row_of (falling ++ crowded) (key 0 ∷ key 50 ∷ []) ≡ 2
  pub first_page_first : row_of (crowded ++ falling) (key 0 ∷ key 50 ∷ []) ≡ 2
  -- "one that doesn't rise", or a key outside
  pub equal_separators : row_of (page [] ++ page []) (key 0 ∷ key 0 ∷ []) ≡ 6
  pub key_at_the_next_separator : row_of (page (10 ∷ 50 ∷ []) ++ page []) (key 0 ∷ key 50 ∷ []) ≡ 6
  -- "one that starts above zero"
  pub starts_above_zero : row_of (page []) (key 5 ∷ []) ≡ 18

pub rows_are_refused : Rows
unfolding num lt_key body_limit record_limit value_limit merge_below values total word count key_at number_at flag_at offset_at start length_at value_at record_at run records_between records all_below offset_step offset_inside offsets_right value_fits values_fit key_step keys_rise page_verdict le16 tagged pointers build base_verdict key_of is_put length_of value_length put_body lower lent_row_verdict call_verdict row_verdict
rows_are_refused = record {
  right = refl;
  no_page = refl;
  part_of_a_page = refl;
  no_separator = refl;
  no_page_for_it = refl;
  second_page_first = refl;
  first_page_first = refl;
  equal_separators = refl;
  key_at_the_next_separator = refl;
  starts_above_zero = refl;
}

-- the row call on a page that has a key or none, by its separator, list, changes, values, area and tickets
abbrev called : List ℕ → ℕ → ℕ → List (List ℕ) → ℕ → ℕ → ℕ → ℕ
called ks b list changes values area tickets = row_verdict 98 list 98 (page ks) (key b ∷ []) changes values area tickets

pub record Calls : Type 0 where
  pub accepted : called [] 0 3 [] 0 196 130 ≡ 0
  -- "after 17 with 18"
  pub key_below : called (3 ∷ []) 5 3 [] 0 0 0 ≡ 6
  pub no_area : called [] 5 3 [] 0 0 0 ≡ 17
  pub area_as_asked : called [] 5 3 [] 0 196 130 ≡ 18
  pub short_tickets : called [] 0 3 [] 0 196 129 ≡ 17
  pub one_page_more : called [] 0 3 (puts 1 0 ∷ []) 0 293 195 ≡ 17
  -- 7 before 10 before 12 before 13
  pub short_list : called [] 0 2 (puts 1 1 ∷ []) 0 0 0 ≡ 7
  pub short_buffer_lem : called [] 0 3 (puts 1 1 ∷ []) 0 0 0 ≡ 10
  pub long_value_lem : called [] 0 3 (puts 2 0 ∷ puts 1 0 ∷ puts 3 1 ∷ []) 1 0 0 ≡ 12
  pub backwards : called [] 0 3 (puts 2 0 ∷ puts 1 0 ∷ []) 0 0 0 ≡ 13

pub calls_are_refused : Calls
unfolding num lt_key body_limit record_limit value_limit merge_below values total word count key_at number_at flag_at offset_at start length_at value_at record_at run records_between records all_below offset_step offset_inside offsets_right value_fits values_fit key_step keys_rise page_verdict le16 tagged pointers build base_verdict key_of is_put length_of value_length put_body lower lent_row_verdict call_verdict row_verdict
calls_are_refused = record {
  accepted = refl;
  key_below = refl;
  no_area = refl;
  area_as_asked = refl;
  short_tickets = refl;
  one_page_more = refl;
  short_list = refl;
  short_buffer_lem = refl;
  long_value_lem = refl;
  backwards = refl;
}

-- ---- the call whole, on a list of three entries and buffers that hold nines

abbrev nines : ℕ → List ℕ
nines n = replicate n 9

abbrev list : List Entry
list = replicate 3 (insert_at 9 9 (key 9) 9)

abbrev deletes : ℕ → List ℕ
deletes b = key b ++ zeros 8

-- a page of two records, of which one is deleted
abbrev done : RowOutcome
done = row_outcome 98 list (nines 98) (page (10 ∷ 20 ∷ [])) (key 0 ∷ []) (deletes 10 ∷ []) [] (nines 197) (nines 131)

abbrev written : RowOutcome
written = record { refusal = 0; count = 1; list = replicate 3 blank; store = zeros 98; area = page (20 ∷ []) ++ nines 99; tickets = (2 ∷ zeros 32) ++ nines 98 }

-- the same with a short area
abbrev refused : RowOutcome
refused = row_outcome 98 list (nines 98) (page (10 ∷ 20 ∷ [])) (key 0 ∷ []) (deletes 10 ∷ []) [] (nines 195) (nines 131)

-- four new values without a base, one more than the list has entries
abbrev cleared : RowOutcome
cleared = row_outcome 98 list (nines 98) [] [] (puts 1 0 ∷ puts 2 0 ∷ puts 3 0 ∷ puts 4 0 ∷ []) [] (nines 295) (nines 196)

pub record Outcomes : Type 0 where
  pub it_is_done : done ≡ written
  pub it_is_refused : refused ≡ record { refusal = 17; count = 0; list = list; store = nines 98; area = nines 195; tickets = nines 131 }
  pub all_is_cleared : cleared ≡ record { refusal = 15; count = 0; list = replicate 3 blank; store = zeros 98; area = zeros 295; tickets = zeros 196 }

pub outcomes_of_a_row_call : Outcomes
unfolding num lt_key body_limit record_limit value_limit merge_below values total word count key_at number_at flag_at offset_at start length_at value_at record_at run records_between records all_below offset_step offset_inside offsets_right value_fits values_fit key_step keys_rise page_verdict le16 tagged pointers build base_verdict key_of is_put length_of value_length put_body lower lent_row_verdict call_verdict row_verdict eq_key flag_of target_of cut cut_all plan shared shared_bits leading separate_of bytes_of bulk_above bulk_target row_outcome
outcomes_of_a_row_call = record { it_is_done = refl; it_is_refused = refl; all_is_cleared = refl }
