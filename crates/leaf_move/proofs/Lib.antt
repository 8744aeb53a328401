-- The laws of moving within a list.
pub mod Under
pub mod Lowering
pub mod Settling
pub mod Within
