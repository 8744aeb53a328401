-- Laws on plain values, for the functions' proofs and for the crate above.
pub mod Rows
pub mod Verdicts
pub mod Sheets
pub mod Rewriting
pub mod Examples
