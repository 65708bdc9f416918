-- Inner: no clause of `run` is made of it.
-- What a source in memory shows.
use Rattle.std.specs.Prelude.{ℕ, List, drop}
use Rattle.memory_devices.specs.declared.mem_source.MemSource.{MemSource}

-- the bytes that are left
abbrev pub left_in : MemSource → List ℕ
left_in s = drop s.at s.bytes.items

-- the most bytes that a read gives
abbrev pub piece_of : MemSource → ℕ
piece_of s = s.piece

-- the numbers of the reads that fail
abbrev pub fails_of : MemSource → List ℕ
fails_of s = s.fails.items

-- how many reads there were
abbrev pub calls_of : MemSource → ℕ
calls_of s = s.calls

-- how many of them failed
abbrev pub faults_of : MemSource → ℕ
faults_of s = s.faults
