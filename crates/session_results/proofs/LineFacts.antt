-- What the lines of streams ask.
use Rattle.std.proofs.Common.{◌≡◌, ℕ, suc, ◌<◌, cond, List, [], ◌∷◌, length, map, refl, ap, ap₂, subst, ◌∙◌, sym}
use Rattle.std.proofs.lemmas.Bool.{le-ltb, lt-ltb}
use Rattle.op_model.specs.declared.request.LineError.TheVariants as error
use Rattle.op_model.specs.Transcript.{Faulty}
use Rattle.client_events.specs.declared.lines.LineText.{LineText}
use Rattle.client_events.specs.declared.lines.LineText.TheVariants as text
use Rattle.client_events.specs.Phases.{line_of}
use Rattle.stored_log.specs.Stored.{asked_line}
use Rattle.stream_lines.specs.declared.reading.StreamLines.{StreamLines}
use Rattle.stream_lines.specs.Streams.{AreTexts, IsText}
use Rattle.core_steps.specs.Starts.{lines_of}
use Rattle.session_results.specs.Results.{line_asked}
use Rattle.session_results.specs.Begun.{asked_of, client_lines}

-- a line that is kept
text_asked : (t : LineText) (line : List ℕ) → IsText t line → line_of asked_line t ≡ line_asked line
unfolding line_asked
text_asked (text.Bytes bytes) line i = ap asked_line i.0 ∙ sym (ap (λ b. cond b (Faulty (error.LineTooLong (length line))) (asked_line line)) (le-ltb 65536 (length line) i.1))
text_asked (text.Long n) line i =
    ap (λ k. Faulty (error.LineTooLong k)) i.0
    ∙ sym (ap (λ b. cond b (Faulty (error.LineTooLong (length line))) (asked_line line)) (lt-ltb 65536 (length line) (subst (λ k. 65536 < k) i.0 i.1)))

-- the lines that are kept ask what those of the stream do
pub texts_asked : (ts : List LineText) (lines : List (List ℕ)) → AreTexts ts lines → map (line_of asked_line) ts ≡ map line_asked lines
texts_asked [] [] h = refl
texts_asked [] (line ∷ lines) h = absurd h
texts_asked (t ∷ ts) [] h = absurd h
texts_asked (t ∷ ts) (line ∷ lines) h = ap₂ (λ x xs. x ∷ xs) (text_asked t line h.0) (texts_asked ts lines h.1)

pub texts_count : (ts : List LineText) (lines : List (List ℕ)) → AreTexts ts lines → length ts ≡ length lines
texts_count [] [] h = refl
texts_count [] (line ∷ lines) h = absurd h
texts_count (t ∷ ts) [] h = absurd h
texts_count (t ∷ ts) (line ∷ lines) h = ap suc (texts_count ts lines h.1)

-- the machine's clients are those of the streams
pub clients_asked : (read : List StreamLines) → map (lines_of asked_line) (map client_lines read) ≡ map asked_of read
clients_asked [] = refl
clients_asked (r ∷ rs) = ap (λ xs. asked_of r ∷ xs) (clients_asked rs)
