mod TableLemmas
mod PartLemmas
