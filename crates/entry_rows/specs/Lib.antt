pub mod States
pub mod Retiring
pub mod Changes
pub mod Listed
pub mod LogLists
