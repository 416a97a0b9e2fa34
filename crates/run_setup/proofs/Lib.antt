pub mod Each
pub mod RowLemmas
pub mod SlotLemmas
pub mod DealLemmas
pub mod CollectLemmas
pub mod EndLemmas
pub mod OpenedLemmas
