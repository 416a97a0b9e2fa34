pub mod Splits
pub mod Slowly
