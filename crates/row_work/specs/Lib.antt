-- What holds of the work that a row's turns go over.
pub mod Loaded
