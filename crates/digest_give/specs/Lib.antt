-- A leaf that was taken off what is pending, given out.
pub mod Leaf
