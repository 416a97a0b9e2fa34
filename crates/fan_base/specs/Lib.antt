pub mod Block
pub mod Outcome
pub mod Outside
pub mod Parcel
pub mod Store
pub mod Supply
pub mod Word
