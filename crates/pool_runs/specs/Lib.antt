pub mod Recorded
pub mod Blocks
pub mod Running
pub mod Returning
