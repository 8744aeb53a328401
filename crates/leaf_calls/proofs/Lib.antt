-- The claim about the exported calls.
pub mod Claimed
