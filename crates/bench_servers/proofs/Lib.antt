pub mod Apart
pub mod Axes
pub mod ServerFacts
