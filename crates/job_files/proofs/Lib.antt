pub mod Counting
pub mod Steps
mod KeptIn
mod KeptOut
pub mod Emptying
pub mod Openings
mod AnswerOpenings
mod ReadLines
pub mod Callers
