-- Laws on plain values, for the functions' proofs.
pub mod Finishing
