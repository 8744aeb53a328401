-- Laws of splitting.
pub mod Splitting
