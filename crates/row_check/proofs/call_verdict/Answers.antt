-- `row_check::call_verdict` meets its contract.
-- Assumes nothing.
use Rattle.std.proofs.Common.{rules}
use Rattle.row_check.proofs.Calls.{the_limit_of_a_value, a_wrong_room_has_number_7, missing_values_have_number_10, long_values_have_number_12, falling_keys_have_number_13, a_short_area_has_number_17, a_long_row_has_number_18, a_right_row_is_accepted}
use Rattle.row_check.proofs.call_verdict.Goals as goal

pub returns-then-not-room_right : goal.returns-then-not-room_right
returns-then-not-room_right c = search (a_wrong_room_has_number_7, rules)

pub returns-then-not-values_there : goal.returns-then-not-values_there
returns-then-not-values_there c = search (missing_values_have_number_10, rules)

pub returns-then-not-lengths_fit : goal.returns-then-not-lengths_fit
returns-then-not-lengths_fit c = search (the_limit_of_a_value, long_values_have_number_12, rules)

pub returns-then-not-keys_rise : goal.returns-then-not-keys_rise
returns-then-not-keys_rise c = search (the_limit_of_a_value, falling_keys_have_number_13, rules)

pub returns-then-not-has_pages : goal.returns-then-not-has_pages
returns-then-not-has_pages c = search (the_limit_of_a_value, a_short_area_has_number_17, rules)

pub returns-then-not-short_from_zero : goal.returns-then-not-short_from_zero
returns-then-not-short_from_zero c = search (the_limit_of_a_value, a_long_row_has_number_18, rules)

pub returns : goal.returns
returns c = search (the_limit_of_a_value, a_right_row_is_accepted, rules)
