-- Laws of sound works on plain values, for the calls' proofs and for leaf_claim.
pub mod Tests
pub mod Operations
pub mod Searching
pub mod Laid
pub mod Soundness
pub mod BasePages
pub mod SoundMeans
pub mod Decoding
pub mod Readiness
pub mod PendingRecords
pub mod Canonical
pub mod Records
pub mod Examples
