pub mod Walk
pub mod Settling
pub mod Asking
