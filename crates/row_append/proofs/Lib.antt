pub mod Growing
pub mod Leaving
pub mod Pushes
pub mod Moving
pub mod EndLaws
pub mod Counting
pub mod LastLemmas
pub mod FoundLemmas
