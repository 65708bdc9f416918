pub mod RootCounts
pub mod Texts
pub mod Walk
