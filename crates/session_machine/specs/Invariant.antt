-- Inner: no clause of `run` is made of it.
-- What holds after each run of the machine, in parts.
use Rattle.std.specs.Prelude.{◌≡◌, ◌⊎◌, ℕ, suc, ◌-◌, ◌≤◌, ◌<◌, Bool, true, false, ◌==◌, List, [], ◌∷◌, length, take, slice_index, slice_get, Option, Some, None}
use Rattle.std.specs.List.{filter, AllByRecursion}
use Rattle.op_model.specs.declared.base.Dataset.{Dataset}
use Rattle.op_model.specs.declared.base.Base.{Base}
use Rattle.op_model.specs.declared.request.Edit.{Edit}
use Rattle.op_model.specs.declared.entry.Asked.TheVariants as asked
use Rattle.op_model.specs.declared.entry.Changed.{Changed}
use Rattle.op_model.specs.declared.entry.Entry.{Entry}
use Rattle.op_model.specs.declared.entry.Shown.{Shown}
use Rattle.op_model.specs.declared.request.Request.TheVariants as request
use Rattle.op_model.specs.declared.reply.Reply.{Reply}
use Rattle.graph_model.specs.Lists.{has}
use Rattle.op_model.specs.Valid.{IsAscending}
use Rattle.op_model.specs.Cuts.{Shows}
use Rattle.op_model.specs.Operations.{touched}
use Rattle.op_model.specs.Refusals.{refuse_early}
use Rattle.op_model.specs.Legal.{Legal, LegalPlan}
use Rattle.op_model.specs.Transcript.{Line, Asks, log_at}
use Rattle.op_model.specs.Reversed.{ReversedTranscript}
use Rattle.op_model.specs.Locks.{lock_of, locks_of}
use Rattle.session_machine.specs.Machine.{Answer, Restart, Phase, Ready, Again, Locking, Pinning, Planning, Waiting, Checking, Committing, Yielding, Releasing, Replying, Ended, ClientState, Shared, State}

-- Locks, pins and the turn.

-- whether a client in this phase has the turn
abbrev pub has_turn : Phase → Bool
has_turn (Checking edit changed shown) = true
has_turn (Committing edit shown e) = true
has_turn (Yielding r) = true
has_turn p = false

-- which locks a client in this phase holds
abbrev pub HoldsFor : List ℕ → Phase → Type 0
HoldsFor held Ready = held ≡ []
HoldsFor held (Again edit) = held ≡ []
HoldsFor held (Locking edit n ns) = AllByRecursion (λ m. m < n) held × IsAscending (n ∷ ns) × AllByRecursion (λ m. m < 64) (n ∷ ns)
HoldsFor held (Replying r) = held ≡ []
HoldsFor held Ended = held ≡ []
HoldsFor held p = Unit {0}

-- which locks it has pinned
abbrev pub PinsFor : List ℕ → List ℕ → Phase → Type 0
PinsFor pinned held (Planning edit) = pinned ≡ held
PinsFor pinned held (Waiting edit changed shown) = pinned ≡ held
PinsFor pinned held (Checking edit changed shown) = pinned ≡ held
PinsFor pinned held (Committing edit shown e) = pinned ≡ held
PinsFor pinned held (Yielding r) = pinned ≡ held
PinsFor pinned held (Releasing a) = (pinned ≡ held) ⊎ (pinned ≡ [])
PinsFor pinned held p = pinned ≡ []

-- each lock is greater than those behind it
abbrev pub Descends : List ℕ → Type 0
Descends [] = Unit {0}
Descends (n ∷ ns) = AllByRecursion (λ m. m < n) ns × Descends ns

-- the locks and pins of a client, and whether it has the turn
pub record ClientLocks (sh : Shared) (i : ℕ) (s : ClientState) (p : Phase) : Type 0 where
  -- a lock has its number just where it holds the lock
  pub mine : (n : ℕ) → (slice_index sh.locks n == i) ≡ has s.held n
  -- the greatest first
  pub order : Descends s.held
  pub holds : HoldsFor s.held p
  pub pins : PinsFor s.pinned s.held p
  pub turn : (sh.turn == i) ≡ has_turn p

-- each lock and the turn is free or held by a client
pub record SharedLocks (clients : ℕ) (sh : Shared) : Type 0 where
  pub locks : length sh.locks ≡ 64
  pub holders : (n : ℕ) → slice_index sh.locks n ≤ clients
  pub turn : sh.turn ≤ clients

-- locks, pins and the turn of all clients
pub record LocksAgree (w : State) : Type 0 where
  pub shared : SharedLocks (length w.clients) w.shared
  pub clients : (k : ℕ) (s : ClientState) → slice_get w.clients k ≡ Some s → ClientLocks w.shared (suc k) s s.phase

-- The log, plans and replies.

-- the entries after the log had this length
unfoldable pub newer : List Entry → ℕ → List Entry
newer log k = take (length log - k) log

-- all of these roots' locks are among these
abbrev pub Covers : Dataset → List ℕ → List ℕ → Type 0
Covers d locks roots = AllByRecursion (λ r. has locks (lock_of d.layout r) ≡ true) roots

-- these lists behind one another, the first one turned round
abbrev pub onto : List ℕ → List ℕ → List ℕ
onto [] ns = ns
onto (m ∷ ms) ns = onto ms (m ∷ ns)

module _ (d : Dataset) (b : Base) where
  -- at the log that the client has seen its edit isn't refused and has these locks
  abbrev pub AtLook : List Entry → ℕ → Edit → List ℕ → Type 0
  AtLook log seen edit locks =
      (refuse_early d b (log_at d b log seen) edit ≡ None) × (locks ≡ locks_of d.layout (touched d b (log_at d b log seen) edit))

  -- the plan is legal now, and the locks of its roots are pinned
  abbrev pub Planned : List Entry → List ℕ → Edit → List Changed → Option Shown → Type 0
  Planned log pinned edit changed shown =
      LegalPlan d b log edit changed × Covers d pinned (touched d b log edit) × Shows d b log edit shown

  -- the entry may follow, and it is that of the client's line
  pub record IsNext (log : List Entry) (i : ℕ) (s : ClientState) (edit : Edit) (shown : Option Shown) (e : Entry) : Type 0 where
    pub seen : s.seen ≡ length log
    pub plan : LegalPlan d b log edit e.changed
    pub roots : Covers d s.pinned (touched d b log edit)
    pub legal : Legal d b (e ∷ log)
    pub number : e.number ≡ length log
    pub client : e.client ≡ i
    pub line : e.line ≡ length s.asked
    pub asked : e.asked ≡ asked.Edit edit
    pub shows : Shows d b log edit shown
    pub covers : Covers d s.pinned e.retired

  abbrev pub PlanFor : List Entry → ℕ → ClientState → Phase → Type 0
  PlanFor log i s (Locking edit n ns) = AtLook log s.seen edit (onto s.held (n ∷ ns))
  PlanFor log i s (Pinning edit) = AtLook log s.seen edit (onto s.held [])
  PlanFor log i s (Planning edit) =
      (refuse_early d b (log_at d b log s.seen) edit ≡ None) × Covers d s.pinned (touched d b (log_at d b log s.seen) edit)
  PlanFor log i s (Waiting edit changed shown) = Planned log s.pinned edit changed shown
  PlanFor log i s (Checking edit changed shown) = Planned log s.pinned edit changed shown
  PlanFor log i s (Committing edit shown e) = IsNext log i s edit shown e
  PlanFor log i s p = Unit {0}

  -- The replies so far are those that the client may get to these lines. They tell of just these own entries, and no length that they name is above what the client has seen.
  abbrev pub RepliedTo : List Entry → ℕ → List Line → List Reply → List Entry → ℕ → Type 0
  RepliedTo log i asked replies own seen = (last : ℕ) × (last ≤ seen) × ReversedTranscript d b log i asked replies own last

  -- the line of an edit is the only one that has no reply
  abbrev pub IsOpen : List Entry → ℕ → ClientState → Edit → Type 0
  IsOpen log i s edit = (asked : List Line) × (s.asked ≡ Asks (request.Edit edit) ∷ asked) × RepliedTo log i asked s.replies s.own s.seen

  -- each line has its reply, if this one is counted
  abbrev pub IsPending : List Entry → ℕ → ClientState → Reply → Type 0
  IsPending log i s r = RepliedTo log i s.asked (r ∷ s.replies) s.own s.seen

  abbrev pub RepliesFor : List Entry → ℕ → ClientState → Phase → Type 0
  RepliesFor log i s Ready = RepliedTo log i s.asked s.replies s.own s.seen
  RepliesFor log i s Ended = RepliedTo log i s.asked s.replies s.own s.seen
  RepliesFor log i s (Again edit) = IsOpen log i s edit
  RepliesFor log i s (Locking edit n ns) = IsOpen log i s edit
  RepliesFor log i s (Pinning edit) = IsOpen log i s edit
  RepliesFor log i s (Planning edit) = IsOpen log i s edit
  RepliesFor log i s (Waiting edit changed shown) = IsOpen log i s edit
  RepliesFor log i s (Checking edit changed shown) = IsOpen log i s edit
  RepliesFor log i s (Committing edit shown e) = IsOpen log i s edit
  RepliesFor log i s (Releasing (Restart edit)) = IsOpen log i s edit
  RepliesFor log i s (Releasing (Answer r)) = IsPending log i s r
  RepliesFor log i s (Yielding r) = IsPending log i s r
  RepliesFor log i s (Replying r) = IsPending log i s r

  -- what a client has seen, its entries, its plan and its replies
  pub record ClientHistory (log : List Entry) (i : ℕ) (s : ClientState) (p : Phase) : Type 0 where
    pub seen : (1 ≤ s.seen) × (s.seen ≤ length log)
    pub own : s.own ≡ filter (λ e. e.client == i) log
    -- no entry after the length that it has seen retired a root whose lock it has pinned
    pub spared : AllByRecursion (λ e. AllByRecursion (λ r. has s.pinned (lock_of d.layout r) ≡ false) e.retired) (newer log s.seen)
    pub plan : PlanFor log i s p
    pub replied : RepliesFor log i s p

  -- the log is legal, and what each client has seen, planned and replied agrees with it
  pub record LogAgrees (w : State) : Type 0 where
    pub legal : Legal d b w.shared.log
    pub clients : (k : ℕ) (s : ClientState) → slice_get w.clients k ≡ Some s → ClientHistory w.shared.log (suc k) s s.phase
