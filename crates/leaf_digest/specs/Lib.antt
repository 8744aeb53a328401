-- What the steps of a digest require and do.
pub mod Reply
pub mod Steps
