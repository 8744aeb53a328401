-- Laws on plain values, for the functions' proofs.
pub mod Gauging
pub mod Ranges
pub mod Ending
pub mod Cursors
pub mod Walking
pub mod Records
pub mod Parts
