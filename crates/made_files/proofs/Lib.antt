pub mod Maps
mod Fronts
mod Written
mod Others
mod Parts
