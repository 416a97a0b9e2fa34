pub mod Helping
pub mod Loops
