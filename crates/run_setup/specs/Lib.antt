pub mod Ids
pub mod Rows
pub mod Slots
pub mod Rooms
pub mod Opening
pub mod Closing
