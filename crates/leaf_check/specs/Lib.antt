-- How the code tests soundness.
pub mod Settled
