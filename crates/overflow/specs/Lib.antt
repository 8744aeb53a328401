-- Overflow cells and pages.
pub mod Count
pub mod Written
pub mod Read
pub mod Verdict
pub mod Outcome
pub mod Reply
pub mod Steps
