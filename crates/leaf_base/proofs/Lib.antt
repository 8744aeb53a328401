-- Laws on plain values, for the functions' proofs and for the crates above.
pub mod KeysWithin
pub mod Bases
