pub mod Seen
pub mod Leaves
pub mod Acts
pub mod Chains
pub mod Landings
pub mod Here
