-- What is known of every refusal.
pub mod Refused
pub mod Numbers
