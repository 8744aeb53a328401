-- What the program reads of a recorded call, compares and counts.
pub mod Answers
pub mod Counts
pub mod Parts
