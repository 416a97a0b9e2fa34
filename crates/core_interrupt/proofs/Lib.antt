pub mod Merging
pub mod Sides
pub mod Slots
pub mod HearerSteps
pub mod RaiserSteps
pub mod Beginning
pub mod Answering
pub mod Endings
