pub mod Started
pub mod Kept
pub mod Few
pub mod Parts
pub mod RootLeaves
pub mod Searches
pub mod Out
pub mod Leaving
