pub mod Seen
pub mod Facts
pub mod Heads
pub mod Spending
