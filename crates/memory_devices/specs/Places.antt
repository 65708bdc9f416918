-- Inner: no clause of `run` is made of it.
-- What a place in memory shows.
use Rattle.std.specs.Prelude.{ℕ, List, Bool, Some}
use Rattle.memory_devices.specs.declared.mem_place.MemPlace.{MemPlace}
use Rattle.pcg_base.specs.States.{PlaceState}
use Rattle.pcg_base.specs.Told.{Files, Counts}
use Rattle.memory_devices.specs.Kept.{map_of, left_at, faults_in, faults_out, was_in, was_out, Fails, fails_at, times}

-- the bytes at each name
abbrev pub told_by : MemPlace → Files
told_by p = map_of p.kept.items

-- the counts beside a name, of which a place in memory never raises the failed openings for writing
abbrev pub counts_by : MemPlace → List ℕ → Counts
counts_by p name = record {
  source_openings = times name p.missed.items;
  sink_openings = 0;
  source_faults = faults_in name p.kept.items;
  sink_faults = faults_out name p.kept.items;
}

abbrev pub read_faults_by : MemPlace → ℕ
read_faults_by p = p.read_faults

abbrev pub write_faults_by : MemPlace → ℕ
write_faults_by p = p.write_faults

-- what the last source that was kept at a name had left
abbrev pub left_by : MemPlace → List ℕ → List ℕ
left_by p name = left_at name p.kept.items

abbrev pub opened_in_by : MemPlace → List ℕ → Bool
opened_in_by p name = was_in name p.kept.items

abbrev pub opened_out_by : MemPlace → List ℕ → Bool
opened_out_by p name = was_out name p.kept.items

-- the most bytes that a read or a write takes
abbrev pub piece_by : MemPlace → ℕ
piece_by p = p.piece

-- the room of each sink
abbrev pub room_by : MemPlace → ℕ
room_by p = p.room

-- which calls fail of a name's sources and sinks
abbrev pub fails_by : MemPlace → List ℕ → Fails
fails_by p name = fails_at name p.kept.items

-- what every place shows
abbrev pub state_of : MemPlace → PlaceState
state_of p = record {
  files = Some (told_by p);
  left = left_by p;
  reads = read_faults_by p;
  writes = write_faults_by p;
  counts = counts_by p;
  opened_in = opened_in_by p;
  opened_out = opened_out_by p;
}
