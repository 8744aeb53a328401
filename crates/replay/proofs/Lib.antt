-- Laws of a record's bytes and of the counts.
pub mod Answers
pub mod Held
pub mod Laws
pub mod Parts
