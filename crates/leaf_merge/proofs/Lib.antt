-- The laws of keeping records.
pub mod Parts
pub mod Walk
pub mod Places
pub mod Keeping
