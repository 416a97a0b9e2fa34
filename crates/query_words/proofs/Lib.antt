pub mod NumberLemmas
pub mod Options
pub mod Filling
pub mod Counting
pub mod Items
pub mod Reading
pub mod Finding
pub mod Ranges
