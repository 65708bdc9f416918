pub mod StateLemmas
pub mod UniteLemmas
pub mod UniteIdLemmas
