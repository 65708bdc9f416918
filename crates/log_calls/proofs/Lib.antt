mod ReadFacts
mod SplitFacts
