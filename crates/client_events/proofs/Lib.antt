pub mod Numbering
pub mod ReleaseLemmas
pub mod LookLemmas
pub mod PlanLemmas
pub mod CheckLemmas
pub mod StepLemmas
pub mod PlaceLemmas
