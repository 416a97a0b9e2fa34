pub mod Cuts
pub mod Known
pub mod Outcomes
pub mod Sayings
pub mod Progress
pub mod Tracks
pub mod Writing
