pub mod Appending
pub mod Cuts
pub mod CutLines
