-- Laws on plain values, for the functions' proofs and for the crates above.
pub mod Leaves
pub mod Calls
pub mod Facts
pub mod Outcomes
pub mod Examples
