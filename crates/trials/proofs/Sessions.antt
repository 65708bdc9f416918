-- What the sessions over texts came to whose answers can't fail.
use Rattle.std.proofs.Common.{◌≡◌, ◌≤◌, ◌^◌, ◌+◌, ℕ, List, [], ◌∷◌, ◌++◌, length, map, Option, Some, None, refl, sym, ◌∙◌, ap, ap₂, subst, arith}
use Rattle.std.specs.Prelude.{is_some, option_to_list}
use Rattle.std.specs.List.{AllByRecursion}
use Rattle.std.proofs.lemmas.List.{append-nil}
use Rattle.op_model.specs.declared.base.Dataset.{Dataset}
use Rattle.op_model.specs.declared.base.Base.{Base}
use Rattle.op_model.specs.declared.entry.Entry.{Entry}
use Rattle.op_model.specs.declared.reply.Reply.{Reply}
use Rattle.op_model.specs.Transcript.{WholeTranscript}
use Rattle.histories.specs.Histories.{EntriesOwned}
use Rattle.pcg_base.specs.States.{SinkState}
use Rattle.pcg_base.specs.declared.clock.Ticks.{Ticks}
use Rattle.client_answers.specs.declared.answers.ClientAnswers.{ClientAnswers}
use Rattle.client_answers.specs.Written.{FaultsSo, IsFresh}
use Rattle.stream_lines.specs.declared.reading.StreamLines.{StreamLines}
use Rattle.job_tables.specs.Inputs.{clock_time}
use Rattle.session_results.specs.declared.playing.SessionsDone.{SessionsDone}
use Rattle.session_results.specs.Ended.{AreDone, Source, streams_of}
use Rattle.session_results.specs.Results.{AllSessions, IsSession, SessionResult, Streams, fault_at, fault_for, fault_of, faults_from, line_asked}
use Rattle.rehearsal.proofs.Zips.{length_map}
use Rattle.trials.specs.Starts.{ArePlayed, AreWhole}
use Rattle.trials.specs.Trials.{AllAnswered, IsAnswered}
use Rattle.trials.proofs.WholeTexts.{read_whole, whole}

-- no writing failed where no count can rise
unfailed : (last : Option Reply) (i j : ℕ) → i ≡ 0 → j ≡ 0 → FaultsSo i j (is_some last) → last ≡ None
unfailed None i j e f h = refl
unfailed (Some r) i j e f h = absurd (omega (arith, e, f, h))

pub fresh_more : {K : Type 0} (xs : List (ClientAnswers K)) (x : ClientAnswers K) → AllByRecursion IsFresh xs → IsFresh x → AllByRecursion IsFresh (xs ++ x ∷ [])
fresh_more [] x h f = (f, tt)
fresh_more (y ∷ xs) x h f = (h.0, fresh_more xs x h.1 f)

module _ {K : Type 0} (seen : K → SinkState) (quiet : (k : K) → (seen k).faults ≡ 0) (d : Dataset) (b : Base) (log : List Entry) where
  -- the streams of one session
  abbrev between : List ℕ → ClientAnswers K → ClientAnswers K → Streams
  between text k m = record {
    left = Some text;
    left' = Some [];
    read_faults = 0;
    read_faults' = 0;
    held = (seen k.sink).held;
    held' = (seen m.sink).held;
    write_faults = (seen k.sink).faults;
    write_faults' = (seen m.sink).faults;
  }

  one : (client : ℕ) (text : List ℕ) (k m : ClientAnswers K) (r : SessionResult) → length text ≤ 2 ^ 30 → IsSession d b log client (between text k m) r → IsAnswered d b log client text r
  one client text k m r short h =
      let none : r.last ≡ None = unfailed r.last (seen k.sink).faults (seen m.sink).faults (quiet k.sink) (quiet m.sink) h.broke in
      let read = read_whole r.ending text h.taken r.lines (Some []) h.consumed short h.ends in
      let told = subst (λ l. WholeTranscript d b log client (map line_asked r.lines) (r.written ++ option_to_list l)) none h.transcript in
      record {
        lines = read.0;
        ending = read.1;
        last = none;
        transcript = subst (λ rs. WholeTranscript d b log client (map line_asked r.lines) rs) (append-nil r.written) told;
        each = h.each none;
      }

  all : (client : ℕ) (texts : List (List ℕ)) (reads : List StreamLines) (ks ms : List (ClientAnswers K)) (rs : List SessionResult) → AreWhole texts reads → length ks ≡ length texts → length ms ≡ length texts
      → AllSessions d b log client (streams_of seen (map whole texts) ks ms) rs → AllAnswered d b log client texts rs
  unfolding streams_of
  all client [] reads ks ms [] w e f h = tt
  all client [] reads ks ms (r ∷ rs) w e f h = absurd h
  all client (t ∷ texts) [] ks ms rs w e f h = absurd w
  all client (t ∷ texts) (x ∷ reads) [] ms rs w e f h = absurd (omega (arith, e))
  all client (t ∷ texts) (x ∷ reads) (k ∷ ks) [] rs w e f h = absurd (omega (arith, f))
  all client (t ∷ texts) (x ∷ reads) (k ∷ ks) (m ∷ ms) [] w e f h = absurd h
  all client (t ∷ texts) (x ∷ reads) (k ∷ ks) (m ∷ ms) (r ∷ rs) w e f h =
      (one client t k m r w.0.short h.0, all (client + 1) texts reads ks ms rs w.1 (omega (arith, e)) (omega (arith, f)) h.1)

-- none of them ended in a fault
no_faults : (d : Dataset) (b : Base) (log : List Entry) (client : ℕ) (texts : List (List ℕ)) (rs : List SessionResult) → AllAnswered d b log client texts rs → faults_from client rs ≡ []
unfolding faults_from fault_of fault_for
no_faults d b log client [] [] h = refl
no_faults d b log client [] (r ∷ rs) h = absurd h
no_faults d b log client (t ∷ texts) [] h = absurd h
no_faults d b log client (t ∷ texts) (r ∷ rs) h =
    ap₂ (λ o fs. fault_at client o ++ fs) (ap₂ (λ l e. fault_for (is_some l) e) h.0.last h.0.ending) (no_faults d b log (client + 1) texts rs h.1)

module _ {K : Type 0} (seen : K → SinkState) (quiet : (k : K) → (seen k).faults ≡ 0) (d : Dataset) (b : Base) (clock : Ticks) where
  pub are_played : (texts : List (List ℕ)) (reads : List StreamLines) (old new : List (ClientAnswers K)) (done : SessionsDone) → AreWhole texts reads → length old ≡ length texts → length new ≡ length old
      → AreDone seen d b (clock_time clock 0) clock [] (map whole texts) old new done → ArePlayed d b clock texts done
  are_played texts reads old new done w e f h =
      let clients = all seen quiet d b h.log 1 texts reads old new h.results w e (f ∙ e) h.sessions in
      record {
        log = h.log;
        image = h.image;
        owned = subst (λ n. EntriesOwned n h.log) (length_map whole texts) h.owned;
        results = h.results;
        clients = clients;
        play = record { state = h.state; play = h.play; last = h.last; replied = h.replied };
        faults_so = h.faults_so ∙ no_faults d b h.log 1 texts h.results clients;
        lines = h.lines;
        refused = h.refused;
      }
