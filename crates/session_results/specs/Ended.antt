-- Inner: no clause of `run` is made of it.
-- What playing sessions comes to.
use Rattle.std.specs.Prelude.{◌≡◌, ℕ, List, [], ◌∷◌, length, ⊤, Option}
use Rattle.pcg_base.specs.States.{SinkState}
use Rattle.op_model.specs.declared.base.Dataset.{Dataset}
use Rattle.op_model.specs.declared.base.Base.{Base}
use Rattle.op_model.specs.declared.entry.Entry.{Entry}
use Rattle.pcg_base.specs.declared.clock.Ticks.{Ticks}
use Rattle.session_machine.specs.Machine as machine
use Rattle.record_rows.specs.Readings.{Image}
use Rattle.histories.specs.Histories.{EntriesOwned}
use Rattle.stream_lines.specs.declared.reading.StreamLines.{StreamLines}
use Rattle.stream_lines.specs.Streams.{HasLines}
use Rattle.client_answers.specs.declared.answers.ClientAnswers.{ClientAnswers}
use Rattle.client_answers.specs.Plays.{IsPlay}
use Rattle.session_results.specs.declared.playing.SessionsDone.{SessionsDone}
use Rattle.session_results.specs.Results.{AllSessions, Replied, SessionResult, Streams, clients_of, faults_from, refusal_count, reply_count}

-- a source before its lines were read and behind them
pub record Source : Type 0 where
  pub left : Option (List ℕ)
  pub left' : Option (List ℕ)
  pub faults : ℕ
  pub faults' : ℕ

-- these are the lines of the sources
abbrev pub AreLines : List Source → List StreamLines → Type 0
AreLines [] [] = ⊤
AreLines (x ∷ xs) (r ∷ rs) = HasLines x.left x.left' x.faults x.faults' r.lines.items r.end × AreLines xs rs
AreLines xs rs = ⊥

-- the sessions' streams, of sources and of answers before and behind
unfoldable pub streams_of : {K : Type 0} → (K → SinkState) → List Source → List (ClientAnswers K) → List (ClientAnswers K) → List Streams
streams_of seen (x ∷ xs) (k ∷ ks) (m ∷ ms) =
    record {
      left = x.left;
      left' = x.left';
      read_faults = x.faults;
      read_faults' = x.faults';
      held = (seen k.sink).held;
      held' = (seen m.sink).held;
      write_faults = (seen k.sink).faults;
      write_faults' = (seen m.sink).faults;
    } ∷ streams_of seen xs ks ms
streams_of seen xs ks ms = []

-- One history stands behind the sessions: it is that of the play of the schedule, each of its entries is of one of the clients, the words are its image, and the counts are those of the sessions.
pub record AreDone {K : Type 0} (seen : K → SinkState) (d : Dataset) (b : Base) (at : ℕ) (ticks : Ticks) (schedule : List ℕ) (sources : List Source) (old new : List (ClientAnswers K)) (done : SessionsDone) : Type 0 where
  pub log : List Entry
  pub image : Image d b log done.words.words
  pub owned : EntriesOwned (length sources) log
  pub results : List SessionResult
  pub sessions : AllSessions d b log 1 (streams_of seen sources old new) results
  pub count : length results ≡ length sources
  pub state : machine.State
  pub play : IsPlay d b ticks schedule (machine.start d b at (clients_of results)) state
  pub last : log ≡ state.shared.log
  pub replied : Replied results state
  pub faults_so : done.faults.items ≡ faults_from 1 results
  pub lines : done.lines ≡ reply_count results
  pub refused : done.refused ≡ refusal_count results
