-- The history behind what was answered and printed.
use Rattle.std.specs.Prelude.{◌≡◌, ℕ, ◌-◌, false, List, ◌++◌, length, None}
use Rattle.std.specs.List.{AllByRecursion}
use Rattle.pcg_base.specs.States.{PlaceState}
use Rattle.op_model.specs.declared.base.Dataset.{Dataset}
use Rattle.op_model.specs.declared.base.Base.{Base}
use Rattle.op_model.specs.declared.entry.Entry.{Entry}
use Rattle.op_model.specs.Legal.{Legal}
use Rattle.op_model.specs.Records.{records}
use Rattle.session_machine.specs.Machine as machine
use Rattle.pcg_base.specs.declared.clock.Ticks.{Ticks}
use Rattle.histories.specs.Histories.{EntriesOwned, IdsStay, LeavesAreJoined, RootsAreJoined, live_roots}
use Rattle.log_lines.specs.LogTexts.{log_text}
use Rattle.client_answers.specs.Plays.{IsPlay}
use Rattle.call_lines.specs.declared.status.Status.{Status}
use Rattle.call_lines.specs.Statuses.{code}
use Rattle.call_lines.specs.Texts.{summary_line}
use Rattle.job_tables.specs.Inputs.{clock_time}
use Rattle.session_results.specs.Results.{Replied, SessionResult, clients_of, faults_from, refusal_count, reply_count, status_for}
use Rattle.rehearsal.specs.Clients.{AllClients, broke}

module _ (d : Dataset) (b : Base) (log : List Entry) (results : List SessionResult) where
  -- One legal history stands behind all that was answered and printed: each of its entries is of one of the clients, each client's replies are a transcript over it, roots and leaves are components at each published time, and what is printed are its lines and the summary.
  pub record History (old new : PlaceState) (stems : List (List ℕ)) (text : List ℕ) (ended : Status) : Type 0 where
    pub legal : Legal d b log
    pub owned : EntriesOwned (length stems) log
    pub clients : AllClients d b log old new 1 stems results
    pub reads : AllByRecursion (λ r. broke r.ending ≡ false) results → new.reads ≡ old.reads
    pub writes : AllByRecursion (λ r. r.last ≡ None) results → new.writes ≡ old.writes
    pub roots : RootsAreJoined d b log
    pub leaves : LeavesAreJoined d b log
    pub ids : IdsStay d b log
    pub status : ended ≡ status_for (faults_from 1 results)
    pub text_so : text ≡ log_text log
        ++ summary_line (length log - 1) (length stems) (length log) (faults_from 1 results) (reply_count results) (records d b log) (refusal_count results) (length (live_roots log)) (code ended)

  -- the history, and what each client was replied, are those of the play of the schedule, by a clock's times
  pub record IsPlayOf (clock : Ticks) (schedule : List ℕ) : Type 0 where
    pub state : machine.State
    pub play : IsPlay d b clock schedule (machine.start d b (clock_time clock 0) (clients_of results)) state
    pub last : log ≡ state.shared.log
    pub replied : Replied results state
