-- Records raised to the end of what is lent.
pub mod Raising
