-- What the functions over a list of entries do to it.
pub mod Lists
