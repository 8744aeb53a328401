-- What a digest over a list of entries answers and leaves.
pub mod Digests
pub mod Steps
