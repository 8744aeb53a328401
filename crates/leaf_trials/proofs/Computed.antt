-- Document 01's trials hold: both sides are computed. Assumes nothing.
use mathlib.Core.Path.{refl}
use Rattle.bit_ops.specs.Key.{num, bytes_of, lt_key, eq_key}
use Rattle.bit_ops.specs.Separate.{shared, shared_bits, leading, separate_of}
use Rattle.leaf_node.specs.Limits.{body_limit, record_limit, value_limit, merge_below, bulk_above, bulk_target}
use Rattle.leaf_node.specs.Record.{values, total}
use Rattle.leaf_node.specs.Page.{word, count, key_at, number_at, flag_at, offset_at, start, length_at, value_at, record_at, run, records_between, records, values_size}
use Rattle.leaf_node.specs.Good.{all_below, offset_step, offset_inside, offsets_right, value_fits, values_fit, key_step, keys_rise, page_verdict}
use Rattle.leaf_node.specs.Search.{place_from, search_of}
use Rattle.leaf_node.specs.Build.{le16, tagged, pointers, build}
use Rattle.leaf_model.specs.Cut.{target_of, cut, cut_all}
use Rattle.leaf_model.specs.Work.{plan}
use Rattle.leaf_work.specs.Pending.{held, in_base, chunk_places, entry_places}
use Rattle.leaf_work.specs.Sound.{sound}
use Rattle.leaf_work.specs.TakingUp.{stop, drops}
use Rattle.leaf_work.specs.Verdict.{base_verdict, keys_verdict, lent_verdict, open_verdict, ingest_verdict, digest_verdict}
use Rattle.leaf_work.specs.Outcome.{open_of, ingest_on, twin_on}
use Rattle.leaf_work.specs.Digest.{digest_on}
use Rattle.leaf_trials.specs.Trials.{WithoutBase, UnderCutoff, BeforeBase, Trials, OtherTrials}

starred_without_base : WithoutBase
unfolding num bytes_of lt_key eq_key shared shared_bits leading separate_of body_limit record_limit value_limit merge_below bulk_above bulk_target values total word count key_at number_at flag_at offset_at start length_at value_at record_at run records_between records values_size all_below offset_step offset_inside offsets_right value_fits values_fit key_step keys_rise page_verdict place_from search_of le16 tagged pointers build target_of cut cut_all plan held in_base chunk_places entry_places sound stop drops base_verdict keys_verdict lent_verdict open_verdict ingest_verdict digest_verdict open_of ingest_on digest_on
starred_without_base = record {
  empty = refl;
  empty_number = refl;
  flagged_number = refl;
  separate_10_13 = refl;
  separate_00_80 = refl;
  three_of_1330 = refl;
  three_of_1331 = refl;
  body_2730 = refl;
  body_1365 = refl;
  four_of_1332 = refl;
  body_2732 = refl;
  five_of_1332 = refl;
  body_1366 = refl;
  six_of_1200 = refl;
  body_3702 = refl;
  all_4092 = refl;
  all_4095 = refl;
  all_5464 = refl;
  all_6830 = refl;
  all_7404 = refl;
}

starred_under_cutoff : UnderCutoff
unfolding num bytes_of lt_key eq_key shared shared_bits leading separate_of body_limit record_limit value_limit merge_below bulk_above bulk_target values total word count key_at number_at flag_at offset_at start length_at value_at record_at run records_between records values_size all_below offset_step offset_inside offsets_right value_fits values_fit key_step keys_rise page_verdict place_from search_of le16 tagged pointers build target_of cut cut_all plan held in_base chunk_places entry_places sound stop drops base_verdict keys_verdict lent_verdict open_verdict ingest_verdict digest_verdict open_of ingest_on digest_on
starred_under_cutoff = record {
  leaf_of_2047 = refl;
  merge_of_2046 = refl;
  all_2047 = refl;
  all_2046 = refl;
}

starred_before_base : BeforeBase
unfolding num bytes_of lt_key eq_key shared shared_bits leading separate_of body_limit record_limit value_limit merge_below bulk_above bulk_target values total word count key_at number_at flag_at offset_at start length_at value_at record_at run records_between records values_size all_below offset_step offset_inside offsets_right value_fits values_fit key_step keys_rise page_verdict place_from search_of le16 tagged pointers build target_of cut cut_all plan held in_base chunk_places entry_places sound stop drops base_verdict keys_verdict lent_verdict open_verdict ingest_verdict digest_verdict open_of ingest_on digest_on
starred_before_base = record {
  two_before_a_base = refl;
  body_4092 = refl;
}

pub the_starred_trials_hold : Trials
the_starred_trials_hold = record { without_base = starred_without_base; under_cutoff = starred_under_cutoff; before_base = starred_before_base }

pub the_other_trials_hold : OtherTrials
unfolding num bytes_of lt_key eq_key shared shared_bits leading separate_of body_limit record_limit value_limit merge_below bulk_above bulk_target values total word count key_at number_at flag_at offset_at start length_at value_at record_at run records_between records values_size all_below offset_step offset_inside offsets_right value_fits values_fit key_step keys_rise page_verdict place_from search_of le16 tagged pointers build target_of cut cut_all plan held in_base chunk_places entry_places sound stop drops base_verdict keys_verdict lent_verdict open_verdict ingest_verdict digest_verdict open_of ingest_on digest_on twin_on
the_other_trials_hold = record {
  first_deleted = refl;
  second_deleted = refl;
  second_deleted_later = refl;
  value_of_1332 = refl;
  value_of_1333 = refl;
  count_of_120 = refl;
  count_of_121 = refl;
  list_of_120 = refl;
  no_area = refl;
  short_area_lem = refl;
  twin_0 = refl;
  twin_1 = refl;
  twin_2 = refl;
  twin_3 = refl;
}
