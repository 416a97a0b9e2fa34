mod Sorted
mod Keeping
mod WordLemmas
pub mod OnceLemmas
mod PlaceLemmas
mod JoinLemmas
mod BothLemmas
mod HeadLemmas
mod NarrowLemmas
mod RunLemmas
mod SelectionLemmas
mod HitLemmas
mod TotalLemmas
pub mod ScoreLemmas
mod ScoredLemmas
pub mod PartLemmas
mod IndexLemmas
pub mod MergeLemmas
mod MarkLemmas
mod BitLemmas
pub mod TableLemmas
pub mod Crossings
pub mod FrontLemmas
