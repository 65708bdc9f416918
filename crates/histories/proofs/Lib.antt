pub mod Prefixes
pub mod Roots
pub mod Leaves
pub mod Counts
pub mod Live
pub mod EachLog
