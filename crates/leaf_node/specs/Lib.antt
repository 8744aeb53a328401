-- Leaf pages, in the order of document 01, "The page"; the clauses of `src/lib.rt` and all higher crates cite these definitions.
pub mod Limits
pub mod Record
pub mod Page
pub mod Good
pub mod Search
pub mod Cell
pub mod Build
pub mod Ticket
pub mod Fits
pub mod Steps
