-- Inner: no clause of `run` is made of it.
-- Laws over all runs of the machine.
use Rattle.std.specs.Prelude.{◌≡◌, ℕ, suc, ◌<◌, ◌≤◌, Bool, true, false, List, [], ◌∷◌, ◌++◌, length, reverse, slice_get, Some, None}
use Rattle.std.specs.List.{list_any}
use Rattle.op_model.specs.declared.base.Dataset.{Dataset}
use Rattle.op_model.specs.declared.base.Base.{Base}
use Rattle.op_model.specs.declared.request.Edit.{Edit}
use Rattle.op_model.specs.declared.entry.Entry.{Entry}
use Rattle.op_model.specs.declared.request.Request.TheVariants as request
use Rattle.op_model.specs.declared.reply.Reply.{Reply}
use Rattle.op_model.specs.declared.reply.Reply.TheVariants.{Edited}
use Rattle.graph_model.specs.Lists.{has}
use Rattle.op_model.specs.Operations.{touched, first_entry}
use Rattle.op_model.specs.Refusals.{refuse_early}
use Rattle.op_model.specs.Legal.{Legal}
use Rattle.op_model.specs.Valid.{IsDataset, IsBase}
use Rattle.op_model.specs.Transcript.{Line, Asks, WholeTranscript, log_at}
use Rattle.op_model.specs.Locks.{locks_of}
use Rattle.session_machine.specs.Machine.{Phase, Pinning, Planning, Waiting, Checking, Committing, holds_all, ClientState, State, Choice, Answer, Yielding, Releasing, Replying, run, start, step, IsRun, is_able, is_ended}
use Rattle.session_machine.specs.Invariant.{LocksAgree, LogAgrees, newer, onto}
use Rattle.session_machine.specs.Play.{work, finishing, AllEnded}

-- the log of the first entry is legal
abbrev pub IsFirst : Dataset → Base → ℕ → Type 0
IsFirst d b at = Legal d b (first_entry d b at ∷ [])

-- this holds after each run over a dataset and a base, from a legal first log and by allowed choices
abbrev pub AfterEachRun : (Dataset → Base → State → Type 0) → Type 0
AfterEachRun P =
    (d : Dataset) (b : Base) → IsDataset d → IsBase d b
    → (at : ℕ) → IsFirst d b at → (clients : List (List Line × Bool)) (events : List (Choice × ℕ)) → IsRun d b events (start d b at clients)
    → P d b (run d b events (start d b at clients))

-- whatever the clients do, each lock and the turn have one holder, and a client holds and has pinned what its phase says
abbrev pub RunsKeepLocks : Type 0
RunsKeepLocks =
    (d : Dataset) (b : Base) (at : ℕ) (clients : List (List Line × Bool)) (events : List (Choice × ℕ))
    → LocksAgree (run d b events (start d b at clients))

-- while some client hasn't ended, some client may go on
abbrev pub SomeIsAble : State → Type 0
SomeIsAble w = (k : ℕ) × (s : ClientState) × (slice_get w.clients k ≡ Some s) × (is_able w.shared s s.phase ≡ true)

abbrev pub NoneIsStuck : Type 0
NoneIsStuck =
    (d : Dataset) (b : Base) (at : ℕ) (clients : List (List Line × Bool)) (events : List (Choice × ℕ))
    → let w = run d b events (start d b at clients) in
    (k : ℕ) (s : ClientState) → slice_get w.clients k ≡ Some s → is_ended s s.phase ≡ false → SomeIsAble w

-- a step of a client that may not go on changes nothing
abbrev pub BlockedStays : Type 0
BlockedStays =
    (d : Dataset) (b : Base) (c : Choice) (k : ℕ) (w : State) (s : ClientState)
    → slice_get w.clients k ≡ Some s → is_able w.shared s s.phase ≡ false → step d b c k w ≡ w

-- the lines taken and the lines left of each client are those that it had at the start
abbrev pub LinesStay : Type 0
LinesStay =
    (d : Dataset) (b : Base) (at : ℕ) (clients : List (List Line × Bool)) (events : List (Choice × ℕ))
    → (k : ℕ) (s : ClientState) → slice_get (run d b events (start d b at clients)).clients k ≡ Some s
    → (l : List Line × Bool) × (slice_get clients k ≡ Some l) × (reverse s.asked ++ s.lines ≡ l.0) × (s.faulty ≡ l.1)

-- the log is legal, plans are legal, and replies are those that the clients may get
abbrev pub RunsKeepLog : Type 0
RunsKeepLog = AfterEachRun LogAgrees

-- the replies of a client, with the one that isn't written yet, the newest first
abbrev pub replies_of : ClientState → Phase → List Reply
replies_of s (Yielding r) = r ∷ s.replies
replies_of s (Releasing (Answer r)) = r ∷ s.replies
replies_of s (Replying r) = r ∷ s.replies
replies_of s p = s.replies

-- the replies of each client are a transcript
abbrev pub RepliesAreTranscripts : Type 0
RepliesAreTranscripts =
    AfterEachRun (λ d b w. (k : ℕ) (s : ClientState) → slice_get w.clients k ≡ Some s
    → WholeTranscript d b w.shared.log (suc k) (reverse s.asked ++ s.lines) (reverse (replies_of s s.phase)))

-- whether the reply tells of an entry
abbrev pub is_edited : Reply → Bool
is_edited (Edited op at retired made shown seen) = true
is_edited r = false

-- whether a reply that tells of an entry isn't written yet
abbrev pub owes_entry : Phase → Bool
owes_entry (Yielding r) = is_edited r
owes_entry (Releasing (Answer r)) = is_edited r
owes_entry (Replying r) = is_edited r
owes_entry p = false

-- but for an entry whose reply isn't written yet, the written replies alone are a transcript
abbrev pub WrittenAreTranscripts : Type 0
WrittenAreTranscripts =
    AfterEachRun (λ d b w. (k : ℕ) (s : ClientState) → slice_get w.clients k ≡ Some s → owes_entry s.phase ≡ false
    → WholeTranscript d b w.shared.log (suc k) (reverse s.asked ++ s.lines) (reverse s.replies))

-- each event of a client that may go on leaves less to do
abbrev pub WorkFalls : Type 0
WorkFalls =
    AfterEachRun (λ d b w. (c : Choice) (k : ℕ) (s : ClientState) → slice_get w.clients k ≡ Some s → is_able w.shared s s.phase ≡ true
    → work (step d b c k w) < work w)

-- when the least client that may go on steps again and again, all clients end
abbrev pub FinishEnds : Type 0
FinishEnds =
    AfterEachRun (λ d b w. (choose : ℕ → Choice) → IsRun d b (finishing d b choose (work w) w) w
    → AllEnded (run d b (finishing d b choose (work w) w) w))

-- a client begins its line again only if an entry since its look retired a root that its edit touched there
abbrev pub AgainIsForced : Type 0
AgainIsForced =
    AfterEachRun (λ d b w. (k : ℕ) (s : ClientState) (edit : Edit) → slice_get w.clients k ≡ Some s → s.phase ≡ Pinning edit
    → holds_all s.held (locks_of d.layout (touched d b w.shared.log edit)) ≡ false
    → list_any (λ e. list_any (λ r. has e.retired r) (touched d b (log_at d b w.shared.log s.seen) edit)) (newer w.shared.log s.seen) ≡ true)

-- whether a client in this phase is past its locks
abbrev pub needs_lock : Phase → Bool
needs_lock (Pinning edit) = true
needs_lock (Planning edit) = true
needs_lock (Waiting edit changed shown) = true
needs_lock (Checking edit changed shown) = true
needs_lock (Committing edit shown e) = true
needs_lock (Yielding r) = true
needs_lock (Releasing a) = true
needs_lock p = false

-- a client that is past its locks holds one
abbrev pub LocksAreHeld : Type 0
LocksAreHeld =
    AfterEachRun (λ d b w. (k : ℕ) (s : ClientState) → slice_get w.clients k ≡ Some s → needs_lock s.phase ≡ true → 0 < length s.held)

-- what a client holds are the locks of the roots that its edit touched at its look, where the log had a length that it has seen since
abbrev pub WholeList : Dataset → Base → List Entry → ClientState → Edit → Type 0
WholeList d b log s edit =
    (k : ℕ) × (1 ≤ k) × (k ≤ s.seen) × (refuse_early d b (log_at d b log k) edit ≡ None) × (onto s.held [] ≡ locks_of d.layout (touched d b (log_at d b log k) edit))

-- so it is from the last lock on, until the first is given back
abbrev pub HasList : Dataset → Base → List Entry → ClientState → Phase → Type 0
HasList d b log s (Pinning edit) = WholeList d b log s edit
HasList d b log s (Planning edit) = WholeList d b log s edit
HasList d b log s (Waiting edit changed shown) = WholeList d b log s edit
HasList d b log s (Checking edit changed shown) = WholeList d b log s edit
HasList d b log s (Committing edit shown e) = WholeList d b log s edit
HasList d b log s (Yielding r) = (edit : Edit) × (asked : List Line) × (s.asked ≡ Asks (request.Edit edit) ∷ asked) × WholeList d b log s edit
HasList d b log s p = Unit {0}

-- from its last lock on until it gives one back, a client holds its whole list of locks
abbrev pub ListsAreHeld : Type 0
ListsAreHeld =
    AfterEachRun (λ d b w. (k : ℕ) (s : ClientState) → slice_get w.clients k ≡ Some s → HasList d b w.shared.log s s.phase)
