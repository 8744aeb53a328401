-- The updater over bytes, in the order in which document 01 tells it. `leaf_model` has the same over records.
pub mod Tests
pub mod Lent
pub mod Pending
pub mod Sound
pub mod TakingUp
pub mod Verdict
pub mod Ready
pub mod Outcome
pub mod Digest
