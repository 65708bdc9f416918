-- Numbers drawn from a state.
use Rattle.std.specs.Prelude.{ℕ, ◌+◌, ◌*◌, ◌/◌, ◌%◌, ◌^◌}

-- the state behind a state: the linear congruential generator of 64 bits by Knuth (MMIX)
unfoldable pub next : ℕ → ℕ
next state = (state * 6364136223846793005 + 1442695040888963407) % 2 ^ 64

-- the number below n that a state shows
unfoldable pub shown : ℕ → ℕ → ℕ
shown n state = state / 2 ^ 33 % n
