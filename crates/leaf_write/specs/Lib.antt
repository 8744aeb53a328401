-- What is written of a leaf, and what that requires.
pub mod Filling
