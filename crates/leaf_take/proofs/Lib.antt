-- Laws on plain values, for the functions' proofs.
pub mod Taking
pub mod Repeated
