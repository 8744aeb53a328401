-- Laws on plain values. `Order` and `Separators` are for readers and for other crates; the rest serves the functions' proofs.
pub mod Cases
pub mod Number
pub mod Order
pub mod SharedBits
pub mod Digits
pub mod Words
pub mod Cutting
pub mod Separators
