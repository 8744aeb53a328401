-- The laws of one leaf off the list.
pub mod Used
pub mod Consuming
pub mod Pushing
pub mod Keys
