-- One leaf of a row: what its steps require and make.
pub mod Leaves
pub mod Digests
pub mod Loads
