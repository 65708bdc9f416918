mod NewLeasts
pub mod Counted
