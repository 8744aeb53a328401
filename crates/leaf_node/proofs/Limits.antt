-- The limits of a page of 4,096 bytes, as document 01 has them. Assumes nothing.
use mathlib.Core.Path.{◌≡◌, refl}
use Rattle.leaf_node.specs.Limits.{body_limit, record_limit, value_limit, merge_below, bulk_above, bulk_target}

pub body_limit_of_4096 : body_limit 4096 ≡ 4094
unfolding body_limit
body_limit_of_4096 = refl

pub record_limit_of_4096 : record_limit 4096 ≡ 120
unfolding record_limit
record_limit_of_4096 = refl

pub value_limit_of_4096 : value_limit 4096 ≡ 1332
unfolding value_limit
value_limit_of_4096 = refl

pub merge_limit_of_4096 : merge_below 4096 ≡ 2047
unfolding merge_below
merge_limit_of_4096 = refl

pub bulk_limit_of_4096 : bulk_above 4096 ≡ 7369
unfolding bulk_above
bulk_limit_of_4096 = refl

pub bulk_target_of_4096 : bulk_target 4096 ≡ 3070
unfolding bulk_target
bulk_target_of_4096 = refl
