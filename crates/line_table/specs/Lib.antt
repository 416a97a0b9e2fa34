pub mod Numbered
pub mod Rooms
pub mod Tables
