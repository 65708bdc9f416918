mod Turns
mod Apart
mod Ids
mod Pairs
mod Edges
mod Answered
