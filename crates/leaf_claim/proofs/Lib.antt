-- Demand 3: a file for what each call leaves, a file for its step in a sequence, then the claim.
pub mod Ingesting
pub mod Leaves
pub mod Digesting
pub mod Agreeing
pub mod Reached
pub mod IngestStep
pub mod DigestStep
pub mod NextBaseStep
pub mod RemovalStep
pub mod OpeningStep
pub mod Twins
pub mod Refusals
pub mod Claimed
pub mod Modes
pub mod Reports
pub mod Examples
