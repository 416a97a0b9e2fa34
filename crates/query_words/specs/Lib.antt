pub mod Numbers
pub mod Options
pub mod Grammar
pub mod Steps
pub mod Laws
