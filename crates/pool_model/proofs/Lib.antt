pub mod Lists
pub mod Tickets
pub mod Histories
pub mod Accounts
pub mod Lawful
pub mod Turns
