pub mod Crossings
mod Ending
mod Running
mod Taking
