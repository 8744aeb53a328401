-- Laws on plain values, for the functions' proofs and for the crate above.
pub mod Reading
pub mod Round
pub mod Whole
pub mod Factor
pub mod Rounded
pub mod Rewriting
pub mod Examples
