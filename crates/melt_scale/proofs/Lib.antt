-- Laws on plain values, for the functions' proofs and for the crate above.
pub mod Scales
pub mod Records
pub mod Sums
pub mod Factors
pub mod Examples
