-- The laws of a digest.
pub mod Numbers
pub mod After
pub mod Digesting
pub mod Calls
