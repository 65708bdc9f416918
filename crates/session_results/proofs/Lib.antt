pub mod LineFacts
pub mod StartFacts
pub mod OneSession
pub mod AllTold
pub mod Machines
pub mod FaultFacts
