-- The definitions that the contracts of `src/lib.rt` cite: keys and their order, `separate`, and what the steps below it find.
pub mod Key
pub mod Separate
pub mod Steps
