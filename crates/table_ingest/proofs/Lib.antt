mod Rows
mod Total
mod Names
mod Meanings
mod Pairs
mod Places
mod Facts
pub mod BaseLemmas
pub mod Counts
mod ReadLemmas
mod FirstLemmas
