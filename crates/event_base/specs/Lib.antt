pub mod Seen
pub mod Calls
pub mod Turns
pub mod Rounds
pub mod Looping
pub mod Closing
pub mod SoFar
pub mod Laws
