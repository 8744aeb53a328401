-- Computed examples on pages of 200 bytes, where all limits are small: a merge and a cutoff removal through the calls; for each clause of soundness
-- a work that breaks it alone; a digest rule by rule, so that a wrong definition fails in the part that is about it; and reports by the mode. Assumes
-- nothing.
use mathlib.Core.Path.{◌≡◌, refl}
use mathlib.Core.Bool.{Bool, true, false}
use mathlib.Core.Option.{none, some}
use mathlib.Core.List.{List, [], ◌∷◌, ◌++◌}
use Prim.Native.Nat.{ℕ}
use lib.ListN.{replicate}
use Rattle.bit_ops.specs.Key.{num, bytes_of, lt_key, eq_key}
use Rattle.bit_ops.specs.Steps.{zeros}
use Rattle.bit_ops.specs.Separate.{shared, shared_bits, leading, separate_of}
use Rattle.leaf_node.specs.Limits.{body_limit, record_limit, value_limit, merge_below, bulk_above, bulk_target}
use Rattle.leaf_node.specs.Record.{Record, values, total}
use Rattle.leaf_node.specs.Page.{word, count, key_at, number_at, flag_at, offset_at, start, length_at, value_at, record_at, run, records_between, records, values_size}
use Rattle.leaf_node.specs.Good.{all_below, offset_step, offset_inside, offsets_right, value_fits, values_fit, key_step, keys_rise, page_verdict}
use Rattle.leaf_node.specs.Search.{place_from, search_of}
use Rattle.leaf_node.specs.Build.{le16, tagged, pointers, build}
use Rattle.leaf_model.specs.Cut.{Cut, target_of, cut, cut_all}
use Rattle.leaf_model.specs.Work.{Leaf, zero_key, plan, leaves_by}
use Rattle.leaf_work.specs.declared.Work.{Work}
use Rattle.leaf_work.specs.declared.Entry.{Entry}
use Rattle.leaf_work.specs.Lent.{blank, insert_at, chunk_of, in_mode}
use Rattle.leaf_work.specs.Pending.{held, in_base, chunk_places, entry_places}
use Rattle.leaf_work.specs.Sound.{sound}
use Rattle.leaf_work.specs.TakingUp.{stop, drops}
use Rattle.leaf_work.specs.Verdict.{with_base_lem, with_none, base_verdict, keys_verdict, lent_verdict, open_verdict, ingest_verdict, digest_verdict, next_base_verdict, remove_verdict}
use Rattle.leaf_work.specs.Outcome.{IngestReply, Quiet, Reported, IngestRefused, Opened, open_work, open_of, Ingested, ingest_on, ingest_of, Accepted, Refused, next_base_of, remove_cutoff_of}
use Rattle.leaf_work.specs.Digest.{Finished, Merge, Digested, pages_of, digest_work, digest_done, digest_on, digest_of}

abbrev size : ℕ
size = 200

abbrev key_of : ℕ → List ℕ
key_of b = b ∷ zeros 31

abbrev record_of : ℕ → ℕ → Record
record_of k n = record { key = key_of k; value = replicate n k; flag = true }

abbrev list : List Entry
list = replicate 6 blank

abbrev store : List ℕ
store = zeros 200

-- ---- a merge

abbrev first_page : List ℕ
first_page = build size (record_of 10 5 ∷ [])

abbrev second_page : List ℕ
second_page = build size (record_of 60 30 ∷ [])

-- a base of one record up to the key 50; a record of key 20 is put; the digest waits
abbrev opens : Opened
opens = open_of size false (with_base_lem first_page zero_key true (key_of 50)) (open_work false (with_none false)) list store

abbrev puts : Ingested
puts = ingest_of size opens.work opens.list opens.store first_page (key_of 20) (some (record { value = replicate 6 20; flag = true }))

abbrev waits : Digested
waits = digest_of size puts.work puts.list puts.store first_page (replicate 200 9) (replicate 65 9)

-- the second base comes, and is digested with what was kept
abbrev joins : Digested
joins = digest_of size (next_base_of size waits.work waits.list waits.store second_page (key_of 50) false zero_key).work waits.list waits.store second_page (replicate 400 9) (replicate 130 9)

-- or the cutoff is removed
abbrev open_again : Work
open_again = (remove_cutoff_of size waits.work waits.list waits.store).work

abbrev ends : Digested
ends = digest_of size open_again waits.list waits.store [] (replicate 200 9) (replicate 65 9)

-- what the calls answer
pub record Replies : Type 0 where
  pub opening_is_accepted : opens.reply ≡ Accepted
  pub first_digest : waits.reply ≡ Merge 0 (key_of 50)
  pub second_digest : joins.reply ≡ Finished 1
  pub digest_after_removal : ends.reply ≡ Finished 1
  -- "both refuse an open work with 9 without testing 8"; an unknown turn is 8
  pub removal_when_open : (remove_cutoff_of size puts.work puts.list puts.store).reply ≡ Refused 9
  pub removal_when_done : (remove_cutoff_of size ends.work ends.list ends.store).reply ≡ Refused 9

pub replies_of_a_merge : Replies
unfolding num bytes_of lt_key eq_key shared shared_bits leading separate_of body_limit record_limit value_limit merge_below bulk_above bulk_target values total word count key_at number_at flag_at offset_at start length_at value_at record_at run records_between records values_size all_below offset_step offset_inside offsets_right value_fits values_fit key_step keys_rise page_verdict place_from search_of le16 tagged pointers build target_of cut cut_all plan held in_base chunk_places entry_places sound stop drops base_verdict keys_verdict lent_verdict open_verdict ingest_verdict digest_verdict next_base_verdict remove_verdict open_of ingest_on digest_on next_base_of remove_cutoff_of
replies_of_a_merge = record {
  opening_is_accepted = refl;
  first_digest = refl;
  second_digest = refl;
  digest_after_removal = refl;
  removal_when_open = refl;
  removal_when_done = refl;
}

-- the leaves: the joined one starts where the first base did
pub record Leaves : Type 0 where
  pub it_writes_nothing : waits.area ≡ replicate 200 9
  pub joined_page : joins.area ≡ build size (record_of 10 5 ∷ record_of 20 6 ∷ record_of 60 30 ∷ []) ++ replicate 200 9
  pub joined_ticket : joins.tickets ≡ (2 ∷ zero_key) ++ replicate 97 9
  pub page_after_removal : ends.area ≡ build size (record_of 10 5 ∷ record_of 20 6 ∷ [])

pub leaves_of_a_merge : Leaves
unfolding num bytes_of lt_key eq_key shared shared_bits leading separate_of body_limit record_limit value_limit merge_below bulk_above bulk_target values total word count key_at number_at flag_at offset_at start length_at value_at record_at run records_between records values_size all_below offset_step offset_inside offsets_right value_fits values_fit key_step keys_rise page_verdict place_from search_of le16 tagged pointers build target_of cut cut_all plan held in_base chunk_places entry_places sound stop drops base_verdict keys_verdict lent_verdict open_verdict ingest_verdict digest_verdict next_base_verdict remove_verdict open_of ingest_on digest_on next_base_of remove_cutoff_of
leaves_of_a_merge = record {
  it_writes_nothing = refl;
  joined_page = refl;
  joined_ticket = refl;
  page_after_removal = refl;
}

-- what is kept, and which keys may come
pub record Keeps : Type 0 where
  pub it_keeps_inserts : waits.list ≡ insert_at 0 5 (key_of 10) 1 ∷ insert_at 5 11 (key_of 20) 1 ∷ replicate 4 blank
  pub its_floor : waits.work.floor ≡ key_of 50
  pub nothing_is_left : joins.list ≡ list
  -- after a cutoff removal keys below the cutoff stay refused
  pub key_below : (ingest_of size open_again waits.list waits.store [] (key_of 49) none).reply ≡ IngestRefused 13
  pub key_at_lem : (ingest_of size open_again waits.list waits.store [] (key_of 50) none).reply ≡ Quiet

pub what_a_merge_keeps : Keeps
unfolding num bytes_of lt_key eq_key shared shared_bits leading separate_of body_limit record_limit value_limit merge_below bulk_above bulk_target values total word count key_at number_at flag_at offset_at start length_at value_at record_at run records_between records values_size all_below offset_step offset_inside offsets_right value_fits values_fit key_step keys_rise page_verdict place_from search_of le16 tagged pointers build target_of cut cut_all plan held in_base chunk_places entry_places sound stop drops base_verdict keys_verdict lent_verdict open_verdict ingest_verdict digest_verdict next_base_verdict remove_verdict open_of ingest_on digest_on next_base_of remove_cutoff_of
what_a_merge_keeps = record {
  it_keeps_inserts = refl;
  its_floor = refl;
  nothing_is_left = refl;
  key_below = refl;
  key_at_lem = refl;
}

-- ---- soundness

-- a work record in the Rust's mode, its other fields in order
abbrev work : ℕ → ℕ → ℕ → ℕ → ℕ → ℕ → ℕ → List ℕ → ℕ → List ℕ → ℕ → List ℕ → List ℕ → ℕ → List ℕ → Work
work turn based low used filled count bytes latest cut cutoff over overriding floor taken last = record {
  turn = turn;
  based = based;
  mode = 0;
  low = low;
  used = used;
  filled = filled;
  count = count;
  bytes = bytes;
  latest = latest;
  cut = cut;
  cutoff = cutoff;
  over = over;
  overriding = overriding;
  floor = floor;
  taken = taken;
  last = last;
}

-- inserts of empty values under these keys, then blanks
abbrev inserts : List ℕ → List Entry
inserts [] = []
inserts (k ∷ ks) = insert_at 0 0 (key_of k) 0 ∷ inserts ks

abbrev verdict : Work → List Entry → List ℕ → ℕ
verdict w es page = lent_verdict size w (es ++ list) store page

abbrev z : List ℕ
z = zero_key

abbrev empty_page : List ℕ
empty_page = build size []

abbrev three_records : List ℕ
three_records = build size (record_of 10 0 ∷ record_of 11 0 ∷ record_of 12 0 ∷ [])

pub record EachClause : Type 0 where
  -- a work that breaks none
  pub none_broken : verdict (work 1 1 1 1 0 1 0 z 1 (key_of 50) 0 z z 1 (key_of 10)) (inserts (9 ∷ [])) three_records ≡ 0
  pub known_turn_lem : verdict (work 4 0 0 0 0 0 0 z 0 z 0 z z 0 z) [] [] ≡ 8
  pub zeroed_memory : verdict (work 0 0 0 0 0 0 0 z 0 z 0 z z 0 z) [] [] ≡ 8
  pub known_flags_lem : verdict (work 1 0 0 0 0 0 0 z 0 z 0 z z 2 (key_of 1)) [] [] ≡ 8
  pub entry_flag : verdict (work 1 0 0 1 0 1 0 z 0 z 0 z z 1 (key_of 9)) (insert_at 0 0 (key_of 9) 2 ∷ []) [] ≡ 8
  pub empty_chunk : verdict (work 1 1 1 1 0 0 0 z 0 z 0 z z 1 (key_of 10)) (chunk_of 1 1 0 ∷ []) three_records ≡ 8
  pub unused_entries : verdict (work 1 0 0 0 0 0 0 z 0 z 0 z z 0 z) (inserts (0 ∷ [])) [] ≡ 8
  pub unused_bytes : lent_verdict size (work 1 0 0 0 0 0 0 z 0 z 0 z z 0 z) list (zeros 199 ++ (1 ∷ [])) [] ≡ 8
  pub room : lent_verdict size (work 1 1 0 4 0 4 0 z 0 z 0 z z 1 (key_of 4)) (inserts (1 ∷ 2 ∷ 3 ∷ 4 ∷ []) ++ replicate 2 blank) store three_records ≡ 8
  pub rising_keys : verdict (work 1 0 0 2 0 2 0 z 0 z 0 z z 1 (key_of 2)) (inserts (2 ∷ 1 ∷ [])) [] ≡ 8
  pub rest_above_last : verdict (work 1 1 0 0 0 0 0 z 0 z 0 z z 1 (key_of 10)) [] three_records ≡ 8
  pub listed_past_lem : verdict (work 1 0 0 1 0 1 0 z 0 z 0 z z 0 z) (inserts (5 ∷ [])) [] ≡ 8
  pub passed_part_lem : verdict (work 1 0 1 0 0 0 0 z 0 z 0 z z 0 z) [] [] ≡ 8
  pub fitting_values : verdict (work 1 0 0 1 35 1 35 z 0 z 0 z z 1 (key_of 9)) (insert_at 0 35 (key_of 9) 0 ∷ []) [] ≡ 8
  pub gauge : verdict (work 1 0 0 0 0 1 0 z 0 z 0 z z 0 z) [] [] ≡ 8
  pub bounds : verdict (work 1 1 0 1 0 1 0 (key_of 10) 0 z 0 z (key_of 10) 0 z) (inserts (5 ∷ [])) empty_page ≡ 8
  pub last_below_cutoff : verdict (work 1 1 0 0 0 0 0 z 1 (key_of 50) 0 z z 1 (key_of 60)) [] empty_page ≡ 8
  pub cutoff_with_base : verdict (work 1 0 0 0 0 0 0 z 1 (key_of 50) 0 z z 0 z) [] [] ≡ 8
  pub cutoff_above_separator : verdict (work 1 1 0 0 0 0 0 (key_of 50) 1 (key_of 50) 0 z (key_of 50) 0 z) [] empty_page ≡ 8
  pub override_with_inserts : verdict (work 1 0 0 0 0 0 0 z 0 z 1 (key_of 3) (key_of 3) 0 z) [] [] ≡ 8
  pub waiting : verdict (work 2 0 0 0 0 0 0 z 0 z 0 z z 0 z) [] [] ≡ 8
  pub done : verdict (work 3 0 0 1 0 1 0 z 0 z 0 z z 1 (key_of 5)) (inserts (5 ∷ [])) [] ≡ 8
  pub floor_above_separator : verdict (work 1 0 0 1 0 1 0 z 0 z 1 (key_of 9) z 1 (key_of 9)) (inserts (9 ∷ [])) [] ≡ 8
  -- a digest would be accepted, clear the override, and leave a floor below the current separator
  pub floor_above_latest : verdict (work 1 0 0 1 0 1 0 (key_of 5) 0 z 1 z (key_of 3) 0 z) (inserts (1 ∷ [])) [] ≡ 8
  pub floor_of_a_base : verdict (work 1 1 0 0 0 0 0 z 0 z 0 z (key_of 20) 0 z) [] empty_page ≡ 8
  pub floor_when_waiting : verdict (work 2 1 0 1 0 1 0 z 1 (key_of 50) 1 z (key_of 49) 0 z) (inserts (10 ∷ [])) [] ≡ 8
  pub absent_keys : verdict (work 1 0 0 0 0 0 0 z 0 (key_of 1) 0 z z 0 z) [] [] ≡ 8

pub each_clause_of_soundness_refuses_a_work : EachClause
unfolding num lt_key body_limit record_limit value_limit merge_below values total word count key_at number_at flag_at offset_at start length_at value_at record_at run records_between records values_size all_below offset_step offset_inside offsets_right value_fits values_fit key_step keys_rise page_verdict le16 tagged pointers build held in_base chunk_places entry_places sound keys_verdict lent_verdict
each_clause_of_soundness_refuses_a_work = record {
  none_broken = refl;
  known_turn_lem = refl;
  zeroed_memory = refl;
  known_flags_lem = refl;
  entry_flag = refl;
  empty_chunk = refl;
  unused_entries = refl;
  unused_bytes = refl;
  room = refl;
  rising_keys = refl;
  rest_above_last = refl;
  listed_past_lem = refl;
  passed_part_lem = refl;
  fitting_values = refl;
  gauge = refl;
  bounds = refl;
  last_below_cutoff = refl;
  cutoff_with_base = refl;
  cutoff_above_separator = refl;
  override_with_inserts = refl;
  waiting = refl;
  done = refl;
  floor_above_separator = refl;
  floor_above_latest = refl;
  floor_of_a_base = refl;
  floor_when_waiting = refl;
  absent_keys = refl;
}

-- ---- a digest, rule by rule

-- an open work after a merge: its override is zero, its latest base starts at the key 50, its cutoff is the key 70
abbrev after_merge : Work
after_merge = work 1 1 0 0 0 0 0 (key_of 50) 1 (key_of 70) 1 z (key_of 50) 0 z

-- two leaves are cut, and nothing is kept
abbrev two_leaves_lem : Cut
two_leaves_lem = record { leaves = (record_of 10 5 ∷ []) ∷ (record_of 60 30 ∷ []) ∷ []; left = [] }

abbrev leaves_of_it : List Leaf
leaves_of_it = leaves_by z (some (key_of 70)) two_leaves_lem

abbrev gives_two : Digested
gives_two = digest_done size after_merge list store (replicate 500 9) (replicate 200 9) two_leaves_lem

-- two small records are pending: they wait for another merge
abbrev waits_again : Digested
waits_again = digest_on size after_merge list store (replicate 200 9) (replicate 65 9) (record_of 10 5 ∷ record_of 20 6 ∷ []) 0

-- it answers how many leaves it gave
pub record Count : Type 0 where
  pub two_are_given : gives_two.reply ≡ Finished 2

digest_counts_its_leaves : Count
digest_counts_its_leaves = record { two_are_given = refl }

-- each page holds its leaf's records
pub record Pages : Type 0 where
  pub page_by_page : pages_of size leaves_of_it ≡ build size (record_of 10 5 ∷ []) ++ build size (record_of 60 30 ∷ [])

pages_hold_the_leaves : Pages
unfolding values total le16 pointers build
pages_hold_the_leaves = record { page_by_page = refl }

-- the pages are in the area, and its later bytes are as they were
pub record Area : Type 0 where
  pub pages_then_nines : gives_two.area ≡ pages_of size leaves_of_it ++ replicate 100 9

area_holds_the_pages : Area
unfolding values total le16 pointers build
area_holds_the_pages = record { pages_then_nines = refl }

-- a later digest doesn't only pass the turn
pub record Again : Type 0 where
  pub it_asks_again : waits_again.reply ≡ Merge 0 (key_of 70)
  pub it_keeps_both : waits_again.work.used ≡ 2

later_digest_waits_too : Again
unfolding body_limit merge_below bulk_above bulk_target values total target_of cut cut_all plan digest_verdict digest_on
later_digest_waits_too = record {
  it_asks_again = refl;
  it_keeps_both = refl;
}

-- what it keeps raises the floor to the cutoff; where nothing is kept, it stays
pub record Floor : Type 0 where
  pub records_are_kept : (digest_work after_merge (record { leaves = []; left = record_of 10 5 ∷ [] })).floor ≡ key_of 70
  pub nothing_is_kept : (digest_work after_merge two_leaves_lem).floor ≡ key_of 50

digest_raises_the_floor : Floor
digest_raises_the_floor = record {
  records_are_kept = refl;
  nothing_is_kept = refl;
}

-- ---- document 02, M-100: which dropped records are reported

-- a flagged record of five bytes, a plain one of three, a flagged one without bytes
abbrev cells : List ℕ
cells = build size (record_of 10 5 ∷ record { key = key_of 30; value = replicate 3 30; flag = false } ∷ record_of 40 0 ∷ [])

-- the key k is deleted first, in a mode
abbrev deletes : Bool → ℕ → IngestReply
deletes every k =
    let o : Opened = open_of size every (with_base_lem cells zero_key false zero_key) (open_work false (with_none false)) list store in
    (ingest_of size o.work o.list o.store cells (key_of k) none).reply

pub record ReportsByMode : Type 0 where
  pub the_rust_is_silent_on_the_first : deletes false 10 ≡ Quiet
  pub the_rust_reports_behind_a_kept_one : deletes false 40 ≡ Reported 200 0
  pub every_one_is_reported : deletes true 10 ≡ Reported 192 5
  pub also_an_empty_one : deletes true 40 ≡ Reported 200 0
  pub no_plain_one : deletes true 30 ≡ Quiet
  pub no_absent_one : deletes true 20 ≡ Quiet
  -- a mode that isn't listed
  pub mode_two : verdict (in_mode 2 (open_work false (with_none false))) [] [] ≡ 8

reports_go_by_the_mode : ReportsByMode
unfolding num bytes_of lt_key eq_key shared shared_bits leading separate_of body_limit record_limit value_limit merge_below bulk_above bulk_target values total word count key_at number_at flag_at offset_at start length_at value_at record_at run records_between records values_size all_below offset_step offset_inside offsets_right value_fits values_fit key_step keys_rise page_verdict place_from search_of le16 tagged pointers build target_of cut cut_all plan held in_base chunk_places entry_places sound stop drops base_verdict keys_verdict lent_verdict open_verdict ingest_verdict digest_verdict next_base_verdict remove_verdict open_of ingest_on digest_on next_base_of remove_cutoff_of
reports_go_by_the_mode = record {
  the_rust_is_silent_on_the_first = refl;
  the_rust_reports_behind_a_kept_one = refl;
  every_one_is_reported = refl;
  also_an_empty_one = refl;
  no_plain_one = refl;
  no_absent_one = refl;
  mode_two = refl;
}
