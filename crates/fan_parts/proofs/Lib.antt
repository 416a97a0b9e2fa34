mod Fires
pub mod Crossings
