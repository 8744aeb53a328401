-- Laws on plain values, which serve the functions' proofs.
pub mod Answers
pub mod Positions
