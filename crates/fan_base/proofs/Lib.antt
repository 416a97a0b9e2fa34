mod Blocks
pub mod Crossing
mod Lanes
mod Pairs
pub mod Words
