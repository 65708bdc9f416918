mod Rules
mod Walks
mod Faults
mod Uses
mod Lines
mod Simple
