-- Document 02, M-104: the weights of one tree, and what they add up to.
pub mod Tree
pub mod Steps
