-- What the claim is to notice, computed: cutoffs and separators that an updater forgets easily, leaves that aren't read, a tally that is fed wrongly,
-- a table that refuses what it shouldn't. Pages have 98 bytes and hold two records without values. Assumes nothing.
use mathlib.Core.Path.{◌≡◌, refl}
use mathlib.Core.Bool.{true, false}
use mathlib.Core.Option.{none, some}
use mathlib.Core.List.{List, [], ◌∷◌, map}
use Prim.Native.Nat.{ℕ}
use lib.ListN.{replicate}
use Rattle.bit_ops.specs.Key.{num, lt_key}
use Rattle.bit_ops.specs.Steps.{zeros}
use Rattle.leaf_node.specs.Limits.{body_limit, record_limit, value_limit, merge_below, bulk_above, bulk_target}
use Rattle.leaf_node.specs.Record.{Record, values, total}
use Rattle.leaf_node.specs.Page.{word, count, key_at, number_at, flag_at, offset_at, start, length_at, value_at, record_at, run, records_between, records, values_size}
use Rattle.leaf_node.specs.Good.{all_below, offset_step, offset_inside, offsets_right, value_fits, values_fit, key_step, keys_rise, page_verdict}
use Rattle.leaf_node.specs.Build.{le16, tagged, pointers, build}
use Rattle.leaf_model.specs.Cut.{target_of, cut, cut_all}
use Rattle.leaf_model.specs.Work.{Waiting, plan}
use Rattle.leaf_work.specs.Lent.{blank}
use Rattle.leaf_work.specs.Pending.{held, in_base, chunk_places, entry_places}
use Rattle.leaf_work.specs.Sound.{sound}
use Rattle.leaf_work.specs.Verdict.{base_verdict, keys_verdict, lent_verdict, with_base_lem, with_none, open_verdict, ingest_verdict, digest_verdict, next_base_verdict}
use Rattle.leaf_work.specs.Outcome.{open_work, open_of, ingest_on, next_base_of}
use Rattle.leaf_work.specs.Digest.{digest_on}
use Rattle.leaf_claim.specs.Sequence.{Call, ingest, digest, next_base, remove_cutoff, State, answered, nexts, opened, leaves_of}
use Rattle.leaf_claim.specs.Claim.{table_says}

abbrev size : ℕ
size = 98

abbrev key_of : ℕ → List ℕ
key_of b = b ∷ zeros 31

abbrev record_of : ℕ → Record
record_of b = record { key = key_of b; value = []; flag = false }

-- a base under separator 10 and cutoff 40
abbrev begun : List Record → State
begun rs = opened size false (with_base_lem (build size rs) (key_of 10) true (key_of 40)) (open_work false (with_none false)) (replicate 8 blank) (zeros size)

-- two records fill a leaf, a single one waits for a merge
abbrev two : List Record
two = record_of 16 ∷ record_of 32 ∷ []

abbrev one : List Record
one = record_of 16 ∷ []

abbrev digests : Call
digests = digest [] (replicate 196 9) (replicate 130 9)

-- the next base, of one record, under separator 40 and cutoff 80
abbrev follows : Call
follows = next_base (build size (record_of 48 ∷ [])) (key_of 40) true (key_of 80)

abbrev after : List Record → List Call → State
after rs xs = nexts size (begun rs) xs

pub record Remembered : Type 0 where
  -- "Next base, when waiting, or when done after a digest that had a cutoff"
  pub cutoff_after_a_finished_digest : answered size (after two (digests ∷ [])) follows ≡ 0
  -- No. 14: "key at or above the cutoff", here the next base's
  pub cutoff_of_the_next_base : answered size (after two (digests ∷ follows ∷ [])) (ingest [] (key_of 80) none) ≡ 14
  -- "The first leaf takes the current separator."
  pub separator_of_the_opening : map (λ l. l.separator) (leaves_of size (after two (digests ∷ [])).given) ≡ key_of 10 ∷ []

cutoffs_and_separators_are_remembered : Remembered
unfolding num lt_key body_limit record_limit value_limit merge_below bulk_above bulk_target values total word count key_at number_at flag_at offset_at start length_at value_at record_at run records_between records values_size all_below offset_step offset_inside offsets_right value_fits values_fit key_step keys_rise page_verdict le16 tagged pointers build target_of cut cut_all plan held in_base chunk_places entry_places sound base_verdict keys_verdict lent_verdict open_verdict ingest_verdict digest_verdict next_base_verdict open_of ingest_on digest_on next_base_of
cutoffs_and_separators_are_remembered = record {
  cutoff_after_a_finished_digest = refl;
  cutoff_of_the_next_base = refl;
  separator_of_the_opening = refl;
}

pub record Fed : Type 0 where
  -- "any refused call: no change"; the key lies below the separator
  pub refused_ingest : (after two (ingest [] (key_of 5) (some (record { value = []; flag = false })) ∷ [])).tally ≡ two
  -- "Next base: the new page's records go behind."
  pub next_base : (after two (digests ∷ follows ∷ [])).tally ≡ record_of 16 ∷ record_of 32 ∷ record_of 48 ∷ []

the_tally_is_fed_what_was_accepted : Fed
unfolding num lt_key body_limit record_limit value_limit merge_below bulk_above bulk_target values total word count key_at number_at flag_at offset_at start length_at value_at record_at run records_between records values_size all_below offset_step offset_inside offsets_right value_fits values_fit key_step keys_rise page_verdict le16 tagged pointers build target_of cut cut_all plan held in_base chunk_places entry_places sound base_verdict keys_verdict lent_verdict open_verdict ingest_verdict digest_verdict next_base_verdict open_of ingest_on digest_on next_base_of
the_tally_is_fed_what_was_accepted = record {
  refused_ingest = refl;
  next_base = refl;
}

pub record Waits : Type 0 where
  -- "Left with body at least 2,047, or no cutoff: one more leaf, done. Otherwise the records are kept, waiting"
  pub told : (after one (digests ∷ [])).told.turn ≡ Waiting
  -- "Cutoff removal, when waiting"
  pub table : table_says size (after one (digests ∷ [])).told one 8 size remove_cutoff ≡ 0

a_merge_request_waits : Waits
unfolding num lt_key body_limit record_limit value_limit merge_below bulk_above bulk_target values total word count key_at number_at flag_at offset_at start length_at value_at record_at run records_between records values_size all_below offset_step offset_inside offsets_right value_fits values_fit key_step keys_rise page_verdict le16 tagged pointers build target_of cut cut_all plan held in_base chunk_places entry_places sound base_verdict keys_verdict lent_verdict open_verdict ingest_verdict digest_verdict next_base_verdict open_of ingest_on digest_on next_base_of
a_merge_request_waits = record { told = refl; table = refl }
