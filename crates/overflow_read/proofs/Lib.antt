-- Laws of joining and freeing.
pub mod Checking
pub mod Joining
