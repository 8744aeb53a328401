-- A whole row in one call.
pub mod Bare
pub mod Closing
