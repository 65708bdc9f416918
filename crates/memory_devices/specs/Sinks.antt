-- Inner: no clause of `run` is made of it.
-- What a sink in memory shows.
use Rattle.std.specs.Prelude.{ℕ, List, take, Some}
use Rattle.pcg_base.specs.States.{SinkState}
use Rattle.memory_devices.specs.declared.mem_sink.MemSink.{MemSink}

-- the bytes that it holds
abbrev pub held_in : MemSink → List ℕ
held_in k = k.bytes.items

-- those of them that were flushed
abbrev pub flushed_in : MemSink → List ℕ
flushed_in k = take k.flushed k.bytes.items

-- how many bytes more it can take
abbrev pub room_of : MemSink → ℕ
room_of k = k.room

-- the most bytes that a write takes
abbrev pub piece_of : MemSink → ℕ
piece_of k = k.piece

-- the numbers of the writes that fail
abbrev pub fails_of : MemSink → List ℕ
fails_of k = k.fails.items

-- the numbers of the flushes that fail
abbrev pub flush_fails_of : MemSink → List ℕ
flush_fails_of k = k.flush_fails.items

-- how many writes there were
abbrev pub calls_of : MemSink → ℕ
calls_of k = k.calls

-- how many flushes there were
abbrev pub flushes_of : MemSink → ℕ
flushes_of k = k.flushes

-- how many writes and flushes failed
abbrev pub faults_of : MemSink → ℕ
faults_of k = k.faults

-- what every sink shows
abbrev pub state_of : MemSink → SinkState
state_of k = record { held = Some (held_in k); flushed = Some (flushed_in k); faults = faults_of k }
