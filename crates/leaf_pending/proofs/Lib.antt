-- Laws on plain values, for the functions' proofs.
pub mod Walking
pub mod Twins
pub mod Found
