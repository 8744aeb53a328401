-- Document 01, "The tally of demand 3": sequences of calls, and what is claimed of each.
pub mod Told
pub mod Sequence
pub mod Claim
pub mod Modes
