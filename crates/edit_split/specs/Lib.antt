pub mod Marks
pub mod Components
