pub mod Passing
pub mod TailLists
pub mod Begun
pub mod EdgeSteps
pub mod NodeSteps
pub mod OwnerLists
pub mod LinkSteps
pub mod LinkBegin
