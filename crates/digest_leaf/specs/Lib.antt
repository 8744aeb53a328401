-- One leaf off the list: what filling its page and reading the key behind it require.
pub mod Pushing
pub mod Keys
