pub mod PartLemmas
pub mod MergeLemmas
pub mod WholeLemmas
pub mod Crossings
pub mod BuildLemmas
