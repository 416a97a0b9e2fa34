pub mod Views
pub mod Rule
pub mod Steps
pub mod Seen
pub mod Passes
pub mod Settled
pub mod Looks
pub mod Marks
