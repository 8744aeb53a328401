-- The laws of raising records.
pub mod Inserts
pub mod Raising
pub mod Sources
