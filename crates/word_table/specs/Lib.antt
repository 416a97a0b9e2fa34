pub mod Numbers
pub mod Places
pub mod Parts
pub mod Rows
pub mod Numbered
pub mod Tables
pub mod Told
