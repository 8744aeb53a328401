-- What the steps over a leaf's changes make.
pub mod Changes
pub mod Run
