-- Laws of the updater over records. `Boundaries` computes examples; `Sequence` has the theorem about every sequence of calls.
pub mod Boundaries
pub mod Tests
pub mod Lists
pub mod Keys
pub mod Cutting
pub mod AsThePaperSays
pub mod Plan
pub mod Separators
pub mod Ingesting
pub mod Invariant
pub mod Bases
pub mod Sequence
