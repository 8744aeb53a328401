-- The laws of giving leaves out.
pub mod OneLeaf
pub mod Separating
pub mod Onward
pub mod LeafByLeaf
pub mod Finishing
