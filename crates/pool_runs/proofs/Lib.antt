pub mod Results
pub mod Lists
pub mod Blocks
pub mod Handing
pub mod Draining
pub mod Crossings
