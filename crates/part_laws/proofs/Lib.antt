pub mod PartLemmas
pub mod ChangedLinks
pub mod TouchedLemmas
