-- What clients' answers are after a reply of one of them was put.
use Rattle.std.specs.Prelude.{◌≡◌, ℕ, pred, ◌+◌, ◌-◌, ◌^◌, min, Bool, true, false, if◌then◌else◌, List, [], ◌∷◌, slice_get, slice_set, ⊤, Option, Some, None}
use Rattle.std.specs.Io.KnownBytes.{Appends}
use Rattle.op_model.specs.declared.reply.Reply.{Reply}
use Rattle.op_model.specs.declared.reply.Reply.TheVariants as reply
use Rattle.request_lines.specs.Texts.{text_of_reply}
use Rattle.pcg_base.specs.Causes.{Rose}
use Rattle.pcg_base.specs.States.{SinkState}
use Rattle.pcg_base.specs.Told.{AppendsFront}
use Rattle.client_answers.specs.declared.answers.ClientAnswers.{ClientAnswers}
use Rattle.client_answers.specs.declared.answers.AllAnswers.{AllAnswers}

-- whether a reply refuses its line
unfoldable pub refuses : Reply → Bool
refuses (reply.Refused refusal seen) = true
refuses (reply.BadLine error) = true
refuses reply.NoMemory = true
refuses r = false

-- a count and one more, which stands still at its type's end
abbrev pub one_more : ℕ → ℕ
one_more n = min (n + 1) (2 ^ 32 - 1)

-- how often all sinks have failed
unfoldable pub fault_sum : {K : Type 0} → (K → SinkState) → List (ClientAnswers K) → ℕ
fault_sum state [] = 0
fault_sum state (x ∷ xs) = (state x.sink).faults + fault_sum state xs

-- the reply's text was written, and it was counted
pub record IsWritten {K : Type 0} (state : K → SinkState) (x : ClientAnswers K) (r : Reply) (y : ClientAnswers K) : Type 0 where
  pub text : Appends (state x.sink).held (state y.sink).held (text_of_reply r)
  pub still : (state y.sink).faults ≡ (state x.sink).faults
  pub lines : y.lines ≡ one_more x.lines
  pub refused : y.refused ≡ (if refuses r then one_more x.refused else x.refused)
  pub failed : y.failed ≡ x.failed

-- a front of it was written, and the failure was noted
pub record IsBroken {K : Type 0} (state : K → SinkState) (x : ClientAnswers K) (r : Reply) (y : ClientAnswers K) : Type 0 where
  pub text : AppendsFront (state x.sink).held (state y.sink).held (text_of_reply r)
  pub rose : Rose (state x.sink).faults (state y.sink).faults
  pub lines : y.lines ≡ x.lines
  pub refused : y.refused ≡ x.refused
  pub failed : y.failed ≡ true

-- this relation holds of the client's answers before and after, and those of the others stayed; of a client that there isn't nothing is said
abbrev pub AtClient : {K : Type 0} → (ClientAnswers K → Reply → ClientAnswers K → Type 0) → AllAnswers K → ℕ → Reply → AllAnswers K → Option (ClientAnswers K) → Type 0
AtClient P old client r new None = ⊤
AtClient {K = K} P old client r new (Some x) = (y : ClientAnswers K) × P x r y × (new.list.items ≡ slice_set old.list.items (pred client) y)

-- the client's reply was written
abbrev pub IsPut : {K : Type 0} → (K → SinkState) → AllAnswers K → ℕ → Reply → AllAnswers K → Type 0
IsPut state old client r new = AtClient (IsWritten state) old client r new (slice_get old.list.items (pred client))

-- its writing failed
abbrev pub IsMissed : {K : Type 0} → (K → SinkState) → AllAnswers K → ℕ → Reply → AllAnswers K → Type 0
IsMissed state old client r new = AtClient (IsBroken state) old client r new (slice_get old.list.items (pred client))
