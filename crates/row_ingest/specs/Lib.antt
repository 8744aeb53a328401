-- The changes that a loaded leaf takes: what is required of them, and what they make.
pub mod Taking
