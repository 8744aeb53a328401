-- What the calls inside a row's turns make of the work, by its pending records.
pub mod Holds
pub mod Ingesting
pub mod Opening
pub mod NextBase
pub mod Digesting
