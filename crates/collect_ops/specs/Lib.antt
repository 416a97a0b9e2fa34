pub mod Seen
pub mod Views
pub mod Rule
pub mod Steps
pub mod Answers
pub mod Closing
pub mod Owned
pub mod Bringing
