-- Laws on plain values, for the functions' proofs.
pub mod Pages
pub mod Parts
pub mod Leaves
pub mod Tickets
pub mod Keys
