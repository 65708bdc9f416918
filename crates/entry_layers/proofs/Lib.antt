mod Holding
mod LastNodes
mod LayerSteps
mod NewRoots
mod Rounds
pub mod AllLayers
