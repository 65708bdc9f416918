mod Axes
mod ServerFacts
