pub mod Parts
pub mod Changing
pub mod Items
pub mod Links
pub mod Drafting
