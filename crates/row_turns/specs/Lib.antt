-- A row of leaves under changes, in the order in which document 02, M-101, tells it.
pub mod Row
pub mod Changes
pub mod Turns
pub mod Lookup
