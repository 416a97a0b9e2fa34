pub mod Sums
pub mod Free
pub mod Crossings
