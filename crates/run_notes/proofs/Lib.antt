pub mod Accounting
pub mod Leading
pub mod Noting
mod Putting
mod Tasks
