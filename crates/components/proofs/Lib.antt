pub mod Chained
pub mod Traversal
pub mod Least
