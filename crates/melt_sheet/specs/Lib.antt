-- Document 02, M-104: the melt sheet of a tree in a row.
pub mod Melt
pub mod Steps
pub mod Claims
