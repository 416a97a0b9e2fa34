pub mod Lists
pub mod Crossings
