-- What a splitting writes.
pub mod Written
