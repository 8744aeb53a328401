-- What moving within a list makes of it.
pub mod Moving
