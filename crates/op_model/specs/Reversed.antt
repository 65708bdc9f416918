-- Inner: no clause of `run` is made of it.
-- A transcript told from its end: the newest line, reply and entry come first.
use Rattle.std.specs.Prelude.{◌≡◌, ℕ, suc, ◌<◌, ◌≤◌, List, [], ◌∷◌, length, Option, Some}
use Rattle.op_model.specs.declared.base.Dataset.{Dataset}
use Rattle.op_model.specs.declared.base.Base.{Base}
use Rattle.op_model.specs.declared.request.Edit.{Edit}
use Rattle.op_model.specs.declared.request.Read.{Read}
use Rattle.op_model.specs.declared.request.Request.TheVariants as request
use Rattle.op_model.specs.declared.request.LineError.{LineError}
use Rattle.op_model.specs.declared.entry.Entry.{Entry}
use Rattle.op_model.specs.declared.entry.Shown.{Shown}
use Rattle.op_model.specs.declared.reply.Reply.{Reply}
use Rattle.op_model.specs.declared.reply.Reply.TheVariants as reply
use Rattle.op_model.specs.declared.reply.Refusal.{Refusal}
use Rattle.op_model.specs.Refusals.{refused}
use Rattle.op_model.specs.Answers.{answer}
use Rattle.op_model.specs.Transcript.{Line, Asks, Faulty, read_reply, log_at, Tells}

module _ (d : Dataset) (b : Base) where
  -- What a line of a client may be replied. The replies before it told of the entries own and named last as their last length; with this one they tell of owns and name k.
  pub data IsReplied (history : List Entry) (client line last : ℕ) (own : List Entry) (a : Line) (r : Reply) (k : ℕ) (owns : List Entry) : Type 0 where
    OutOfMemory : r ≡ reply.NoMemory → k ≡ last → owns ≡ own → IsReplied history client line last own a r k owns
    BadLine : (error : LineError) → a ≡ Faulty error → r ≡ reply.BadLine error → k ≡ last → owns ≡ own → IsReplied history client line last own a r k owns
    Answered :
        (q : Read) → a ≡ Asks (request.Read q) → 1 ≤ k → last ≤ k → k ≤ length history
        → r ≡ read_reply (refused d b (log_at d b history k) (request.Read q)) (log_at d b history k) (answer d b (log_at d b history k) q) → owns ≡ own
        → IsReplied history client line last own a r k owns
    Refused :
        (edit : Edit) (refusal : Refusal) → a ≡ Asks (request.Edit edit) → r ≡ reply.Refused refusal k → 1 ≤ k → last ≤ k → k ≤ length history
        → refused d b (log_at d b history k) (request.Edit edit) ≡ Some refusal → owns ≡ own
        → IsReplied history client line last own a r k owns
    Accepted :
        (edit : Edit) (e : Entry) (op at : ℕ) (retired made : List ℕ) (shown : Option Shown) → a ≡ Asks (request.Edit edit)
        → r ≡ reply.Edited op at retired made shown k → last < k → k ≤ length history
        → Tells d b history client line edit e op at retired made shown k → owns ≡ e ∷ own
        → IsReplied history client line last own a r k owns

  -- These replies may be given to these lines of a client, where they tell of the entries own and last is the last length that they name.
  abbrev pub ReversedTranscript : List Entry → ℕ → List Line → List Reply → List Entry → ℕ → Type 0
  ReversedTranscript history client [] [] own last = (own ≡ []) × (last ≡ 1)
  ReversedTranscript history client (a ∷ asked) (r ∷ replies) owns k =
      (last : ℕ) × (own : List Entry) × IsReplied history client (suc (length asked)) last own a r k owns × ReversedTranscript history client asked replies own last
  ReversedTranscript history client [] (r ∷ replies) own last = ⊥
  ReversedTranscript history client (a ∷ asked) [] own last = ⊥
