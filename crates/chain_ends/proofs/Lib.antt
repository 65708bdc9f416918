pub mod Lasts
pub mod Keys
pub mod EndFacts
pub mod EdgeFinds
