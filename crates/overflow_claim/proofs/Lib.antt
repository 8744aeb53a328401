-- Laws about what the overflow calls answer and leave.
pub mod Bytes
pub mod RoundTrips
pub mod Splits
pub mod Claims
