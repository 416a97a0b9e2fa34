pub mod Totals
pub mod EachStep
