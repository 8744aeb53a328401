-- Laws on plain values. `Pushing` is for readers and for other crates; the rest serves the functions' proofs.
pub mod Putting
pub mod Pushing
pub mod Writing
pub mod Shifting
pub mod Rebuilding
pub mod Examples
