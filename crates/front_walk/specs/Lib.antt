pub mod Turns
pub mod Coming
pub mod Following
pub mod Laws
pub mod Keeping
