-- What linking the leaves of the new row writes.
pub mod Linking
pub mod NewRow
