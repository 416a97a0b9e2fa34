pub mod Cells
pub mod Pairs
pub mod Probed
pub mod Ring
pub mod Table
