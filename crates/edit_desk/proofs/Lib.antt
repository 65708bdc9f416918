mod Going
mod PinFacts
mod TurnFacts
