pub mod Lists
pub mod Gather
pub mod Listing
pub mod Opening
pub mod Dealing
pub mod Claiming
pub mod Taking
pub mod Keeping
pub mod Returning
pub mod Passing
pub mod Closing
pub mod Telling
pub mod Crossings
mod Seats
