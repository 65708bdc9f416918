pub mod Residues
pub mod Augmenting
pub mod Greatest
pub mod Showing
pub mod Playing
