pub mod SteppingLemmas
pub mod WayLemmas
pub mod CoreLemmas
pub mod RunLemmas
pub mod FaultLemmas
pub mod StartLemmas
pub mod PlayLemmas
