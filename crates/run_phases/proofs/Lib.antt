pub mod Adders
pub mod Runs
