-- What the answers of clients are after a run of the core.
use Rattle.std.specs.Prelude.{◌≡◌, ℕ, ◌-◌, ◌^◌, min, Bool, true, false, List, [], ◌∷◌, ◌++◌, length, reverse, count_by, is_some, option_to_list, slice_get, Option, Some, None}
use Rattle.std.specs.Io.KnownBytes.{Appends}
use Rattle.pcg_base.specs.States.{SinkState}
use Rattle.op_model.specs.declared.reply.Reply.{Reply}
use Rattle.request_lines.specs.Texts.{text_of_reply}
use Rattle.pcg_base.specs.Causes.{Rose}
use Rattle.session_machine.specs.Machine.{ClientState, Ended}
use Rattle.client_answers.specs.declared.answers.ClientAnswers.{ClientAnswers}
use Rattle.client_answers.specs.Answers.{refuses}

-- the texts of replies, one behind the other
unfoldable pub texts : List Reply → List ℕ
texts [] = []
texts (r ∷ rs) = text_of_reply r ++ texts rs

-- held bytes, where they are known, grew by the texts of these replies, and by a front of the text of the one whose writing failed
abbrev pub HasTexts : Option (List ℕ) → Option (List ℕ) → List Reply → Option Reply → Type 0
HasTexts old new written None = Appends old new (texts written)
HasTexts old new written (Some r) = (front : List ℕ) × (rest : List ℕ) × (text_of_reply r ≡ front ++ rest) × Appends old new (texts written ++ front)

-- the count of faults stood still, or it rose where a reply's writing failed
abbrev pub FaultsSo : ℕ → ℕ → Bool → Type 0
FaultsSo old new false = new ≡ old
FaultsSo old new true = Rose old new

-- a count as far as its type goes
abbrev pub counted : ℕ → ℕ
counted n = min n (2 ^ 32 - 1)

-- no reply was written yet
pub record IsFresh {K : Type 0} (x : ClientAnswers K) : Type 0 where
  pub lines : x.lines ≡ 0
  pub refused : x.refused ≡ 0
  pub failed : x.failed ≡ false

-- A client's replies were written, from fresh answers on. The last one's writing may have failed; then the client has ended. Where none did it has ended only with no line left.
pub record Answered {K : Type 0} (state : K → SinkState) (x y : ClientAnswers K) (s : ClientState) : Type 0 where
  pub written : List Reply
  pub last : Option Reply
  pub replies : reverse s.replies ≡ written ++ option_to_list last
  pub broke : y.failed ≡ is_some last
  pub ended : y.failed ≡ true → s.phase ≡ Ended
  pub drained : y.failed ≡ false → s.phase ≡ Ended → s.lines ≡ []
  pub texts : HasTexts (state x.sink).held (state y.sink).held written last
  pub faults_so : FaultsSo (state x.sink).faults (state y.sink).faults y.failed
  pub lines : y.lines ≡ counted (length written)
  pub refused : y.refused ≡ counted (count_by refuses written)

-- the same of each client
abbrev pub AllAnswered : {K : Type 0} → (K → SinkState) → List (ClientAnswers K) → List (ClientAnswers K) → List ClientState → Type 0
AllAnswered {K = K} state old new clients =
    (k : ℕ) (s : ClientState) → slice_get clients k ≡ Some s
    → (x : ClientAnswers K) × (y : ClientAnswers K) × (slice_get old k ≡ Some x) × (slice_get new k ≡ Some y) × Answered state x y s
