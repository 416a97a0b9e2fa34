pub mod Strings
pub mod Crossings
pub mod Views
