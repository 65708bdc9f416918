pub mod Places
pub mod EventReplies
pub mod Sinks
pub mod WrittenRuns
pub mod PlaySteps
pub mod Owners
pub mod Ends
