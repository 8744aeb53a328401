-- What holds of a row under changes.
pub mod Changing
pub mod Lookups
pub mod Rows
pub mod Turning
pub mod NewRow
pub mod Asked
pub mod Separators
pub mod Middle
pub mod Examples
