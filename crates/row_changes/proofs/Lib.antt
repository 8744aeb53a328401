-- Laws on plain values, for the functions' proofs and for the crates above.
pub mod Entries
pub mod Loops
pub mod Edits
pub mod Examples
