mod SeatFacts
