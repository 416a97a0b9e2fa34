pub mod Asked
pub mod Plans
pub mod Homes
pub mod First
pub mod Fronts
pub mod Beside
pub mod Closing
