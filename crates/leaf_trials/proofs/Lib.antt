-- The trials, computed.
pub mod Computed
