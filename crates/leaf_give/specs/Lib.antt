-- What a digest gives out, and what giving it requires.
pub mod Giving
pub mod Steps
