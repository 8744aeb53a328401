-- The records that a digest keeps, and what keeping them requires.
pub mod Keeping
pub mod Lifting
