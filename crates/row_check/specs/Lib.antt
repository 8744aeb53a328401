-- What refuses a row and its changes.
pub mod Verdict
pub mod Outcome
pub mod Steps
