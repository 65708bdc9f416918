-- Inner: no clause of `run` is made of it.
-- What the folder keeps beside each name.
use Rattle.std.specs.Prelude.{ℕ, List, false, IsSome, String, unwrap_or}
use Rattle.std.specs.BTreeMap.{BTreeMap, get_by_text}
use Rattle.pcg_base.specs.Told.{Counts}
use Rattle.system_devices.specs.declared.seen.Seen.{Seen}

-- of a name that was never met
abbrev pub unseen : Seen
unseen = record { source_openings = 0; sink_openings = 0; source_faults = 0; sink_faults = 0; opened_in = false; opened_out = false }

-- what was seen of the name with these bytes
abbrev pub seen_at : {Y : Type 0} → BTreeMap (String Y) Seen → List ℕ → Seen
seen_at names name = unwrap_or (get_by_text names name) unseen

-- the name has room
abbrev pub IsKnown : {Y : Type 0} → BTreeMap (String Y) Seen → List ℕ → Type 0
IsKnown names name = IsSome (get_by_text names name)

-- its counts
abbrev pub counts_of : Seen → Counts
counts_of s = record {
  source_openings = s.source_openings;
  sink_openings = s.sink_openings;
  source_faults = s.source_faults;
  sink_faults = s.sink_faults;
}
