-- Laws on plain values, for the functions' proofs.
pub mod Keeping
pub mod Numbers
pub mod Splicing
pub mod Ingests
pub mod Repeated
