-- The laws of raising records within list and store, and of moving them down again.
pub mod Lists
pub mod Records
pub mod Entries
pub mod Parts
pub mod Keeping
pub mod Clearing
