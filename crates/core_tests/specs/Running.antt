-- Inner: no clause of `run` is made of it.
-- A core over the records of a log in memory, between two steps.
use Rattle.std.specs.Prelude.{◌<◌, ◌^◌, length}
use Rattle.core_steps.specs.declared.cores.Core.{Core}
use Rattle.core_steps.specs.declared.starting.ClientLines.{ClientLines}
use Rattle.core_steps.specs.Places.{IsSound}
use Rattle.stored_log.specs.declared.logs.StoredLog.{StoredLog}
use Rattle.stored_log.specs.Stored.{Drafts, Stands, asked_line}

-- the core is in some state that a run can reach
pub record IsRunning (core : Core StoredLog) : Type 0 where
  pub sound : IsSound asked_line (Stands core.rows) (Drafts core.rows) core.table core.clients.items

-- a client has so few lines that 32 bits count them
abbrev pub IsShort : ClientLines → Type 0
IsShort l = length l.lines.items < 2 ^ 32
