pub mod Backs
pub mod Rowing
pub mod Opening
