-- What the sessions of all clients came to.
use Rattle.std.proofs.Common.{◌≡◌, ℕ, zero, suc, ◌+◌, ◌^◌, ◌<◌, false, List, [], ◌∷◌, ◌++◌, length, map, reverse, option_to_list, Some, refl, sym, ◌∙◌, ap, ap₂, subst, arith}
use Rattle.std.specs.Prelude.{slice_get, sum_by}
use Rattle.std.specs.List.{AllByRecursion}
use Rattle.std.proofs.lemmas.List.Sums.{sum_by-cons}
use Rattle.pcg_base.specs.States.{SinkState}
use Rattle.op_model.specs.declared.base.Dataset.{Dataset}
use Rattle.op_model.specs.declared.base.Base.{Base}
use Rattle.op_model.specs.declared.entry.Entry.{Entry}
use Rattle.op_model.specs.Transcript.{WholeTranscript}
use Rattle.session_machine.specs.Machine.{ClientState}
use Rattle.stream_lines.specs.declared.reading.StreamLines.{StreamLines}
use Rattle.client_answers.specs.declared.answers.ClientAnswers.{ClientAnswers}
use Rattle.client_answers.specs.Written.{Answered}
use Rattle.session_results.specs.Begun.{asked_of, faults_told}
use Rattle.session_results.specs.Ended.{AreLines, Source, streams_of}
use Rattle.session_results.specs.Results.{AllSessions, SessionResult, clients_of, fault_at, faults_from, refusal_count, reply_count}
use Rattle.session_results.proofs.OneSession.{Told, told}

module _ {K : Type 0} (seen : K → SinkState) (d : Dataset) (b : Base) (log : List Entry) where
  -- what is known of a client by its place
  abbrev pub Facts : ℕ → List StreamLines → List (ClientAnswers K) → List (ClientAnswers K) → List ClientState → Type 0
  Facts client read old new states =
      (k m : ℕ) (r : StreamLines) (x y : ClientAnswers K) (s : ClientState) → m ≡ client + k → slice_get read k ≡ Some r → slice_get old k ≡ Some x → slice_get new k ≡ Some y → slice_get states k ≡ Some s
      → Answered seen x y s × WholeTranscript d b log m (asked_of r).0 (reverse s.replies) × (y.failed ≡ false → length s.replies ≡ length (asked_of r).0)

  -- the results of all sessions, from the client of this number on
  pub record Sessions (client : ℕ) (sources : List Source) (read : List StreamLines) (old new : List (ClientAnswers K)) (states : List ClientState) : Type 0 where
    pub results : List SessionResult
    pub sessions : AllSessions d b log client (streams_of seen sources old new) results
    pub count : length results ≡ length sources
    pub replied : (k : ℕ) (r : SessionResult) → slice_get results k ≡ Some r → (s : ClientState) × (slice_get states k ≡ Some s) × (reverse s.replies ≡ r.written ++ option_to_list r.last)
    pub asked : clients_of results ≡ map asked_of read
    pub faults_so : faults_from client results ≡ faults_told client new (map (λ r. r.end) read)
    pub lines : reply_count results ≡ sum_by (λ x. x.lines) new
    pub refusals : refusal_count results ≡ sum_by (λ x. x.refused) new

  none_told : (client : ℕ) → Sessions client [] [] [] [] []
  unfolding streams_of clients_of faults_from faults_told reply_count refusal_count
  none_told client = record { results = []; sessions = tt; count = refl; replied = λ k r e. cc; asked = refl; faults_so = refl; lines = refl; refusals = refl }

  -- one more client, before the others
  one_more : (client : ℕ) (x : Source) (sources : List Source) (r : StreamLines) (read : List StreamLines) (o n : ClientAnswers K) (old new : List (ClientAnswers K)) (s : ClientState) (states : List ClientState)
      → Told seen d b log client x r o n s → Sessions (client + 1) sources read old new states → Sessions client (x ∷ sources) (r ∷ read) (o ∷ old) (n ∷ new) (s ∷ states)
  unfolding streams_of clients_of faults_from faults_told reply_count refusal_count
  one_more client x sources r read o n old new s states t rest =
      record {
        results = t.result ∷ rest.results;
        sessions = (t.session, rest.sessions);
        count = ap suc rest.count;
        replied = replied;
        asked = ap₂ (λ y ys. y ∷ ys) t.asked rest.asked;
        faults_so = ap₂ (λ f fs. fault_at client f ++ fs) t.fault rest.faults_so;
        lines = ap₂ (λ n m. n + m) (sym t.count) rest.lines ∙ sym (sum_by-cons (λ x. x.lines) n new);
        refusals = ap₂ (λ n m. n + m) (sym t.refusals) rest.refusals ∙ sym (sum_by-cons (λ x. x.refused) n new);
      }
    where
      replied : (k : ℕ) (y : SessionResult) → slice_get (t.result ∷ rest.results) k ≡ Some y → (u : ClientState) × (slice_get (s ∷ states) k ≡ Some u) × (reverse u.replies ≡ y.written ++ option_to_list y.last)
      replied zero y e = let i : t.result ≡ y = cc in (s, refl, subst (λ z. reverse s.replies ≡ z.written ++ option_to_list z.last) i t.replied)
      replied (suc k) y e = rest.replied k y e

  pub all_told : (client : ℕ) (sources : List Source) (read : List StreamLines) (old new : List (ClientAnswers K)) (states : List ClientState) → AreLines sources read → AllByRecursion (λ r. length r.lines.items < 2 ^ 32) read
      → length old ≡ length read → length new ≡ length read → length states ≡ length read → Facts client read old new states → Sessions client sources read old new states
  all_told client [] [] [] [] [] h few p q u f = none_told client
  all_told client (x ∷ sources) (r ∷ read) (o ∷ old) (n ∷ new) (s ∷ states) h few p q u f =
      let one = f 0 client r o n s (omega arith) refl refl refl refl in
      one_more client x sources r read o n old new s states (told seen d b log client x r o n s h.0 few.0 one.0 one.1 one.2)
      (all_told (client + 1) sources read old new states h.1 few.1 (omega (arith, p)) (omega (arith, q)) (omega (arith, u)) (λ k m r x y s e. f (suc k) m r x y s (omega (arith, e))))
  all_told client [] (r ∷ read) old new states h few p q u f = absurd h
  all_told client (x ∷ sources) [] old new states h few p q u f = absurd h
  all_told client sources [] (o ∷ old) new states h few p q u f = absurd (omega (arith, p))
  all_told client sources [] old (n ∷ new) states h few p q u f = absurd (omega (arith, q))
  all_told client sources [] old new (s ∷ states) h few p q u f = absurd (omega (arith, u))
  all_told client sources (r ∷ read) [] new states h few p q u f = absurd (omega (arith, p))
  all_told client sources (r ∷ read) old [] states h few p q u f = absurd (omega (arith, q))
  all_told client sources (r ∷ read) old new [] h few p q u f = absurd (omega (arith, u))
