mod Sorts
mod TaskLaws
mod PlaceLaws
mod AskedLaws
mod ComingLaws
mod AlikeLaws
mod ComingSteps
pub mod HowMany
mod RowProofs
