-- What the exported calls answer and leave.
pub mod Copy
pub mod Calls
