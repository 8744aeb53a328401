-- What giving the leaves of a digest requires, and what it leaves.
pub mod Leaves
