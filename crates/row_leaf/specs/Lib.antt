-- One leaf of a row, loaded or copied.
pub mod Leaf
pub mod Load
