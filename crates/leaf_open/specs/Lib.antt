-- What an opening takes, and the steps of its tests, as the definitions of leaf_work have it.
pub mod Opening
