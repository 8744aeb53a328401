-- The refusal numbers, for the definitions.
pub mod Refusal
pub mod Numbers
