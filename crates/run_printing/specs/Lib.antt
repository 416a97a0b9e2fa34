pub mod Events
pub mod Worlds
pub mod Ends
