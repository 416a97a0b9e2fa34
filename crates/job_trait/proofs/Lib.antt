pub mod Histories
mod Oldest
