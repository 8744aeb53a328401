-- What the page calls answer in numbers.
pub mod Reply
