-- An ingest's change and reply in numbers, and what it leaves.
pub mod Reply
pub mod Listing
