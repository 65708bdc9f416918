pub mod Sent
pub mod Json
pub mod Items
pub mod Refused
pub mod Texts
pub mod Lines
pub mod Fields
pub mod Asking
