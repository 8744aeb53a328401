-- Changes as calls that take many are lent them.
pub mod Packed
pub mod Tests
