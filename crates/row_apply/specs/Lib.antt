-- A whole row in one call.
pub mod Apply
