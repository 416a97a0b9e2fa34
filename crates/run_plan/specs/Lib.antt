pub mod Turns
pub mod Planning
pub mod Stopping
pub mod Counting
