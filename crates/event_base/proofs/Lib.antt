mod Calling
mod Turning
mod SoFar
mod Rounding
mod Looped
mod Keeping
mod Behind
mod Leading
mod Executors
mod SameBase
mod Emptied
mod Looked
pub mod Crossings
pub mod Messages
