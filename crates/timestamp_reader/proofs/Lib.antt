pub mod FirstWalks
pub mod ReadPrefixes
pub mod Refused
