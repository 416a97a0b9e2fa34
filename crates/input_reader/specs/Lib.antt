pub mod Sources
pub mod Texts
