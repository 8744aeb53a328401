-- Laws of the pass over the list, on plain values.
pub mod Entries
pub mod Rises
pub mod Walks
pub mod Zeros
pub mod Behind
