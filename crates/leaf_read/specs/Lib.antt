-- What the calls that read a page answer.
pub mod Reply
