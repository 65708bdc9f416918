-- What one client's session came to.
use Rattle.std.proofs.Common.{◌≡◌, ℕ, ◌+◌, ◌^◌, ◌<◌, ◌≤◌, false, List, [], ◌∷◌, ◌++◌, length, map, reverse, count_by, is_some, option_to_list, Option, None, sym, ◌∙◌, ap, subst, arith, length-append}
use Rattle.std.proofs.lemmas.List.{append-nil, length-map, length-reverse}
use Rattle.std.proofs.lemmas.List.Sums.{count_by-le-length}
use Rattle.pcg_base.specs.States.{SinkState}
use Rattle.op_model.specs.declared.base.Dataset.{Dataset}
use Rattle.op_model.specs.declared.base.Base.{Base}
use Rattle.op_model.specs.declared.entry.Entry.{Entry}
use Rattle.op_model.specs.declared.reply.Reply.{Reply}
use Rattle.op_model.specs.Transcript.{Line, Transcript, WholeTranscript, entries_of}
use Rattle.op_model.proofs.TranscriptLemmas.{first}
use Rattle.session_machine.specs.Machine.{ClientState}
use Rattle.stream_lines.specs.declared.reading.StreamLines.{StreamLines}
use Rattle.stream_lines.specs.Streams.{HasLines}
use Rattle.client_answers.specs.declared.answers.ClientAnswers.{ClientAnswers}
use Rattle.client_answers.specs.Answers.{refuses}
use Rattle.client_answers.specs.Written.{Answered, FaultsSo, counted}
use Rattle.session_results.specs.Begun.{asked_of}
use Rattle.session_results.specs.Ended.{Source}
use Rattle.session_results.specs.Results.{IsSession, SessionResult, Streams, fault_for, fault_of, is_faulty, line_asked}
use Rattle.session_results.proofs.LineFacts.{texts_asked, texts_count}

module _ (d : Dataset) (b : Base) where
  -- a transcript has no more replies than lines
  transcript_count : (log : List Entry) (client line seen : ℕ) (own : List Entry) (lines : List Line) (rs : List Reply) → Transcript d b log client line seen own lines rs → length rs ≤ length lines
  transcript_count log client line seen own lines [] t = omega arith
  transcript_count log client line seen own [] (r ∷ rs) t = absurd t
  transcript_count log client line seen own (a ∷ lines) (r ∷ rs) t =
      let o = first d b log client line seen [] own a lines r rs t in
      let n = transcript_count log client (line + 1) o.0 o.2 lines rs o.5 in
      omega (arith, n)

-- a count that its type can hold
counted_small : (n : ℕ) → n < 2 ^ 32 → counted n ≡ n
counted_small n l = omega (arith, l)

none_broke : (l : Option Reply) (written : List Reply) → l ≡ None → written ++ option_to_list l ≡ written
none_broke l written e = ap (λ o. written ++ option_to_list o) e ∙ append-nil written

module _ {K : Type 0} (seen : K → SinkState) where
  -- a session's streams
  abbrev pub stream_of : Source → ClientAnswers K → ClientAnswers K → Streams
  stream_of x k m =
      record {
        left = x.left;
        left' = x.left';
        read_faults = x.faults;
        read_faults' = x.faults';
        held = (seen k.sink).held;
        held' = (seen m.sink).held;
        write_faults = (seen k.sink).faults;
        write_faults' = (seen m.sink).faults;
      }

  module _ (d : Dataset) (b : Base) (log : List Entry) where
    -- a session over what was read of a stream, with the client's answers before and behind it, and the machine's client at its end
    pub record Told (client : ℕ) (x : Source) (r : StreamLines) (old new : ClientAnswers K) (s : ClientState) : Type 0 where
      pub result : SessionResult
      pub session : IsSession d b log client (stream_of x old new) result
      pub replied : reverse s.replies ≡ result.written ++ option_to_list result.last
      pub asked : (map line_asked result.lines, is_faulty result.ending) ≡ asked_of r
      pub fault : fault_of result ≡ fault_for new.failed r.end
      pub count : new.lines ≡ length result.written
      pub refusals : new.refused ≡ count_by refuses result.written

    module _ (client : ℕ) (x : Source) (r : StreamLines) (old new : ClientAnswers K) (s : ClientState) (h : HasLines x.left x.left' x.faults x.faults' r.lines.items r.end) (few : length r.lines.items < 2 ^ 32)
        (a : Answered seen old new s) (t : WholeTranscript d b log client (asked_of r).0 (reverse s.replies)) (each : new.failed ≡ false → length s.replies ≡ length (asked_of r).0) where
      asks : (asked_of r).0 ≡ map line_asked h.lines
      asks = texts_asked r.lines.items h.lines h.kept

      whole : WholeTranscript d b log client (map line_asked h.lines) (a.written ++ option_to_list a.last)
      whole = subst (λ rs. WholeTranscript d b log client (map line_asked h.lines) rs) a.replies (subst (λ ls. WholeTranscript d b log client ls (reverse s.replies)) asks t)

      asks_count : length (asked_of r).0 ≡ length h.lines
      asks_count = ap length asks ∙ length-map h.lines line_asked

      written_small : length a.written < 2 ^ 32
      written_small =
          let n = transcript_count d b log client 1 1 (entries_of d b log client) (map line_asked h.lines) (a.written ++ option_to_list a.last) whole in
          let m = length-append a.written (option_to_list a.last) in
          let k = length-map h.lines line_asked in
          let j = texts_count r.lines.items h.lines h.kept in
          omega (arith, n, m, k, j, few)

      pub told : Told client x r old new s
      unfolding fault_of
      told =
          record {
            result = record { lines = h.lines; ending = r.end; written = a.written; last = a.last };
            session =
                record {
                  taken = h.taken;
                  consumed = h.consumed;
                  ends = h.ends;
                  transcript = whole;
                  each = λ e.
                      ap length (sym (none_broke a.last a.written e)) ∙ (ap length (sym a.replies) ∙ (length-reverse s.replies ∙ (each (a.broke ∙ ap (λ o. is_some o) e) ∙ asks_count)));
                  texts = a.texts;
                  broke = subst (λ f. FaultsSo (seen old.sink).faults (seen new.sink).faults f) a.broke a.faults_so;
                };
            replied = a.replies;
            asked = ap (λ ls. (ls, is_faulty r.end)) (sym asks);
            fault = ap (λ f. fault_for f r.end) (sym a.broke);
            count = a.lines ∙ counted_small (length a.written) written_small;
            refusals = a.refused ∙ counted_small (count_by refuses a.written) (let n = count_by-le-length refuses a.written in let m = written_small in omega (arith, n, m));
          }
