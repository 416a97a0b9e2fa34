pub mod Calls
pub mod Clearing
pub mod Edits
pub mod Waits
