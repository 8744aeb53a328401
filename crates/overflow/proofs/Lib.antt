-- Laws of overflow cells and pages.
pub mod Counts
pub mod Numbers
pub mod Cells
pub mod Chunks
pub mod Verdicts
pub mod Reading
pub mod Examples
