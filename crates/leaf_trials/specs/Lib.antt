-- Document 01, "Bench trials": the starred ones as one record, the others as another.
pub mod Trials
