-- Inner: no clause of `run` is made of it.
-- Whether a client may go on.
use Rattle.std.specs.Prelude.{◌≡◌, ℕ, ◌<◌, ◌-◌, length, Bool, true, false, Option, Some, None, ⊤}
use Rattle.session_machine.specs.Machine as machine
use Rattle.client_events.specs.declared.clients.Client.{Client}
use Rattle.client_events.specs.declared.clients.Table.{Table}
use Rattle.client_events.specs.Phases.{phase_of}
use Rattle.client_events.specs.Steps.{TableIs}
use Rattle.client_events.specs.declared.phases.Phase.{Phase}
use Rattle.client_events.specs.declared.phases.Phase.TheVariants as phase
use Rattle.core_steps.specs.declared.ways.Way.{Way}
use Rattle.core_steps.specs.declared.ways.Way.TheVariants as way

-- the lock that a client waits for has a number of the table
abbrev pub NextBelow : Phase → Type 0
NextBelow (phase.Locking edit wanted next) = next < 64
NextBelow p = ⊤

-- the lock that a client takes next
abbrev pub lock_named : Phase → Option ℕ
lock_named (phase.Locking edit wanted next) = Some next
lock_named p = None

-- the machine's client is able, or neither able nor ended, or ended
abbrev pub IsWay : Phase → Bool → Bool → Way → Type 0
IsWay p able ended way.Open = able ≡ true
IsWay p able ended (way.Blocked lock) = (able ≡ false) × (ended ≡ false) × (lock ≡ lock_named p)
IsWay p able ended way.Ended = (able ≡ false) × (ended ≡ true)

-- the machine's client may go on, wherever it is this one
abbrev pub Opens : Table → Client → Type 0
Opens t me =
    (sh : machine.Shared) (s : machine.ClientState) (client line : ℕ) → TableIs t sh → length s.lines ≡ length me.lines.items - me.taken → s.faulty ≡ me.fault
    → machine.is_able sh s (phase_of client line me.phase) ≡ true

-- it may not
abbrev pub Stays : Table → Client → Type 0
Stays t me =
    (sh : machine.Shared) (s : machine.ClientState) (client line : ℕ) → TableIs t sh → length s.lines ≡ length me.lines.items - me.taken → s.faulty ≡ me.fault
    → machine.is_able sh s (phase_of client line me.phase) ≡ false
