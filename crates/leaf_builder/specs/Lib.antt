-- What `rebuild` answers and leaves, and what the steps of the builder require; what is built is in the definitions of leaf_node.
pub mod Rebuild
pub mod Steps
