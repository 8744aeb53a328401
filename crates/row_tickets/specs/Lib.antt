-- The tickets of the new row, leaf by leaf.
pub mod Linked
