pub mod Cells
pub mod LineLemmas
mod Running
pub mod Sides
pub mod Starts
pub mod Totals
