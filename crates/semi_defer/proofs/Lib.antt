pub mod Sides
pub mod Slots
pub mod Acting
pub mod Beginning
pub mod Endings
