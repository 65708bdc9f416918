pub mod Net
pub mod Verdict
pub mod Tests
pub mod Marks
pub mod Sums
