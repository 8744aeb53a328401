-- Sequences of the exported calls.
pub mod Run
