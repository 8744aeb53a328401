-- Laws for the functions' proofs, on plain values.
pub mod Finding
pub mod Laying
pub mod Splitting
