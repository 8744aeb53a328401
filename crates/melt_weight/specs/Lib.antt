-- Document 02, M-104: a weight record read, and the wax total times the factor.
pub mod Weight
pub mod Sheet
