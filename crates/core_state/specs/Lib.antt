pub mod Table
pub mod Schedule
pub mod Laws
