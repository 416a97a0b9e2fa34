mod NumberLemmas
mod PlaceLemmas
pub mod PairLemmas
mod RowLemmas
mod PartLemmas
pub mod ToldLemmas
mod DocLemmas
pub mod Crossings
