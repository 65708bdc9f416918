pub mod Ranks
pub mod Children
pub mod Orders
