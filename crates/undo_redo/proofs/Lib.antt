pub mod Turning
pub mod Walking
pub mod PairFacts
pub mod LastChanges
