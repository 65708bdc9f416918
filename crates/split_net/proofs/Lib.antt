pub mod Placing
pub mod Linking
pub mod Carried
pub mod Renaming
pub mod Cutting
