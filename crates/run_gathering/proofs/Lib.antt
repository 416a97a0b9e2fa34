mod Counting
mod Contents
mod Firing
mod Looped
mod Waiting
pub mod Crossings
pub mod Living
mod Rows
