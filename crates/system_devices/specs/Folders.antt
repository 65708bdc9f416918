-- Inner: no clause of `run` is made of it.
-- What a folder has counted.
use Rattle.std.specs.Prelude.{ℕ, List, [], None}
use Rattle.pcg_base.specs.States.{PlaceState}
use Rattle.system_devices.specs.declared.folder.Folder.{Folder}
use Rattle.system_devices.specs.declared.seen.Seen.{Seen}
use Rattle.system_devices.specs.Seen.{counts_of, seen_at}

abbrev pub read_faults_of : {R F : Type 0} → Folder R F → ℕ
read_faults_of p = p.read_faults

abbrev pub write_faults_of : {R F : Type 0} → Folder R F → ℕ
write_faults_of p = p.write_faults

-- what it has seen of the name with these bytes
abbrev pub seen_in : {R F : Type 0} → Folder R F → List ℕ → Seen
seen_in p name = seen_at p.names name

-- what every place shows; a folder tells no bytes
abbrev pub state_of : {R F : Type 0} → Folder R F → PlaceState
state_of p = record {
  files = None;
  left = λ name. [];
  reads = read_faults_of p;
  writes = write_faults_of p;
  counts = λ name. counts_of (seen_in p name);
  opened_in = λ name. (seen_in p name).opened_in;
  opened_out = λ name. (seen_in p name).opened_out;
}
