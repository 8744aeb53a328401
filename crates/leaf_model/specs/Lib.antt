-- The updater over records, in the order in which document 01 tells it.
pub mod Basics
pub mod Cut
pub mod Work
pub mod Tally
pub mod Claim
