-- The leaves of a row, one after another.
pub mod Parts
pub mod Stands
