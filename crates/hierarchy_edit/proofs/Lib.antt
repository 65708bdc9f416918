pub mod Committed
mod Counts
mod Draftings
mod EntryFacts
mod PlanKnown
mod Refused
