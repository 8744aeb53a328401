-- The laws of a digest over a list of entries.
pub mod Digesting
pub mod Clearing
pub mod Calls
