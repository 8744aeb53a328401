-- The pass over the list.
pub mod Pass
