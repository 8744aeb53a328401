-- The pending records from a cursor on, and by the lengths of their values; what the steps of cutting require.
pub mod Sizes
pub mod Records
pub mod Steps
