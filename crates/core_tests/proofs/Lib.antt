mod RunningFacts
