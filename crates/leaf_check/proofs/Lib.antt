-- Laws of soundness as the code tests it, on plain values.
pub mod Results
pub mod Decided
pub mod Sounds
pub mod Verdicts
