pub mod Marks
pub mod Runs
pub mod Inline
pub mod Manual
