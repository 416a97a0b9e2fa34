pub mod Seen
pub mod Awaited
pub mod Bringing
pub mod Dealt
pub mod Gathering
pub mod Merging
pub mod Stages
