-- A run by a schedule, until every client has ended, and what is left to do in a state.
use Rattle.std.specs.Prelude.{◌≡◌, ℕ, zero, suc, pred, ◌+◌, ◌*◌, true, nat_lt, if◌then◌else◌, List, [], ◌∷◌, length, slice_get, Option, Some, None}
use Rattle.std.specs.Option.{option_map_or, option_map}
use Rattle.op_model.specs.declared.base.Dataset.{Dataset}
use Rattle.op_model.specs.declared.base.Base.{Base}
use Rattle.session_machine.specs.Machine.{Answer, Restart, Phase, Ready, Again, Locking, Pinning, Planning, Waiting, Checking, Committing, Yielding, Releasing, Replying, Ended, ClientState, Shared, State, Choice, is_able, is_ended, step, run}

-- the place of the least client that may go on
unfoldable pub first_able : Shared → List ClientState → Option ℕ
first_able sh [] = None
first_able sh (s ∷ ss) = if is_able sh s s.phase then Some 0 else option_map suc (first_able sh ss)

-- what a client that looked before the last entry pays for beginning again
unfoldable pub stale : ℕ → ClientState → ℕ
stale n s = if nat_lt s.seen n then 140 else 0

-- How much a client in this phase may still do for its line, at a log of n entries. Each entry may make all clients begin again, which costs m; a client that may still publish one has m to spare.
unfoldable pub cost : ℕ → ℕ → ClientState → Phase → ℕ
cost m n s Ready = 1
cost m n s (Again edit) = 139 + m
cost m n s (Locking edit k ks) = 12 + length s.held + 2 * length ks + m + stale n s
cost m n s (Pinning edit) = 9 + length s.held + m + stale n s
cost m n s (Planning edit) = 8 + length s.held + m
cost m n s (Waiting edit changed shown) = 7 + length s.held + m
cost m n s (Checking edit changed shown) = 6 + length s.held + m
cost m n s (Committing edit shown e) = 5 + length s.held + m
cost m n s (Yielding r) = 4 + length s.held
cost m n s (Releasing (Answer r)) = 3 + length s.held
cost m n s (Releasing (Restart edit)) = 140 + length s.held + m
cost m n s (Replying r) = 2
cost m n s Ended = 0

-- how much it may still do for all its lines
unfoldable pub client_work : ℕ → ℕ → ClientState → ℕ
client_work m n s = length s.lines * (140 + m) + cost m n s s.phase

-- the sum over the clients
unfoldable pub total : (ClientState → ℕ) → List ClientState → ℕ
total f [] = 0
total f (s ∷ ss) = f s + total f ss

-- how many events there can be from here on, if each does something
unfoldable pub work : State → ℕ
work w = total (client_work (140 * length w.clients) (length w.shared.log)) w.clients

-- every client has ended
abbrev pub AllEnded : State → Type 0
AllEnded w = (k : ℕ) (s : ClientState) → slice_get w.clients k ≡ Some s → is_ended s s.phase ≡ true

module _ (d : Dataset) (b : Base) where
  -- each number of a schedule is that of a client, whose next event comes
  abbrev pub scheduled : (ℕ → Choice) → List ℕ → List (Choice × ℕ)
  scheduled choose [] = []
  scheduled choose (k ∷ ks) = (choose (length ks), pred k) ∷ scheduled choose ks

  -- then the least client that may go on steps, n times or until there is none
  unfoldable pub finishing : (ℕ → Choice) → ℕ → State → List (Choice × ℕ)
  finishing choose zero w = []
  finishing choose (suc n) w = option_map_or (λ k. (choose n, k) ∷ finishing choose n (step d b (choose n) k w)) (first_able w.shared w.clients) []

  -- the state after a schedule, once every client has ended
  unfoldable pub play : (ℕ → Choice) → (ℕ → Choice) → List ℕ → State → State
  play choose then_choose schedule w =
      let v = run d b (scheduled choose schedule) w in
      run d b (finishing then_choose (work v) v) v
