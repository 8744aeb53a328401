-- Laws on plain values. `Verdicts`, `RoundTrips`, `Searches`, `Tickets` and `Limits` are for readers and for other crates; the rest serves the
-- functions' proofs, here, in leaf_read and in leaf_builder.
pub mod Rules
pub mod Verdicts
pub mod Trials
pub mod Reading
pub mod Lengths
pub mod Laying
pub mod Copying
pub mod RoundTrips
pub mod Searches
pub mod Tickets
pub mod Limits
