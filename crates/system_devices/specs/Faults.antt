-- Inner: no clause of `run` is made of it.
-- What the program's streams show.
use Rattle.std.specs.Prelude.{ℕ, None}
use Rattle.pcg_base.specs.States.{SinkState}
use Rattle.system_devices.specs.declared.streams.Incoming.{Incoming}
use Rattle.system_devices.specs.declared.streams.Outgoing.{Outgoing}

abbrev pub faults_in : {R : Type 0} → Incoming R → ℕ
faults_in s = s.faults

abbrev pub faults_out : {W : Type 0} → Outgoing W → ℕ
faults_out k = k.faults

-- what every sink shows; these tell no bytes
abbrev pub sink_state : {W : Type 0} → Outgoing W → SinkState
sink_state k = record { held = None; flushed = None; faults = faults_out k }
