-- The leaves of a row, one after another.
pub mod Turns
