pub mod Growing
pub mod Ingests
pub mod Counts
pub mod Fitting
pub mod Orders
