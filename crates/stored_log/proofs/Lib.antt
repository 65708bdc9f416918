pub mod DraftFacts
pub mod ReadFacts
