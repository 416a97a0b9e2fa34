pub mod Schedules
pub mod Orders
pub mod Freeing
pub mod Handing
