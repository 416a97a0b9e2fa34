pub mod Keys
pub mod Turns
pub mod Counted
pub mod Tables
