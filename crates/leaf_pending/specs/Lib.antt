-- The twin call's reply, and what the functions below it require.
pub mod Reply
pub mod Steps
