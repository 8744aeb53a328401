-- Records raised to the end of list and store, one after the other, and kept at their start.
pub mod Lifting
pub mod Keeping
