-- What an ingest takes and answers, and what the functions below the call require and do.
pub mod Reply
pub mod Steps
