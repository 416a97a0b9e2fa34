pub mod Told
pub mod Accounts
pub mod Counting
