pub mod LeavingLemmas
pub mod PostingLemmas
pub mod WorldLemmas
