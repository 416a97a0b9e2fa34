pub mod Calls
pub mod Stages
