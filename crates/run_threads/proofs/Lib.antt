pub mod Crossings
mod Whole
