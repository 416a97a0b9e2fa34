pub mod Seen
pub mod Heads
pub mod Leaving
pub mod Posting
pub mod Worlds
