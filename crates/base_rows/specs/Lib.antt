pub mod Lists
pub mod BaseRows
pub mod States
