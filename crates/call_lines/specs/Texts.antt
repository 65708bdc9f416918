-- What a call writes to its output: the log and a summary, or one fault line.
use Rattle.std.specs.Prelude.{ℕ, List, [], ◌∷◌, map, codes, decimal}
use Rattle.request_lines.specs.Json.{array, line, member, quoted}
use Rattle.table_ingest.specs.Faults.{cause_name, table_name}
use Rattle.table_ingest.specs.declared.errors.Table.{Table}
use Rattle.table_ingest.specs.declared.errors.Cause.{Cause}
use Rattle.call_lines.specs.declared.stops.FileName.{FileName}
use Rattle.call_lines.specs.declared.stops.FileName.TheVariants as files
use Rattle.call_lines.specs.declared.stops.Stop.{Stop}
use Rattle.call_lines.specs.declared.stops.Stop.TheVariants as stops
use Rattle.call_lines.specs.declared.summary.ClientFault.{ClientFault}
use Rattle.call_lines.specs.declared.summary.Fault.{Fault}
use Rattle.call_lines.specs.declared.summary.Fault.TheVariants as faults
use Rattle.call_lines.specs.declared.summary.Summary.{Summary}
use Rattle.call_lines.specs.Statuses.{code}

-- the name of a file in a fault line
unfoldable pub file_name : FileName → List ℕ
file_name files.Supervoxels = codes "supervoxels"
file_name files.Edges = codes "edges"
file_name files.Schedule = codes "schedule"
file_name files.Requests = codes "requests"
file_name files.Answers = codes "answers"

-- a fault without fields
abbrev pub bare : List ℕ → List ℕ
bare name = line (member (codes "fault") (quoted name) ∷ [])

-- a fault of a client's file, or of one that belongs to none
abbrev pub of_file : ℕ → List ℕ → FileName → List ℕ
of_file client fault file =
    line (member (codes "client") (decimal client) ∷ member (codes "fault") (quoted fault) ∷ member (codes "file") (quoted (file_name file)) ∷ [])

-- a record of a table with a cause
abbrev pub of_table : Table → ℕ → Cause → List ℕ
of_table table row cause =
    line
    (member (codes "cause") (quoted (cause_name cause)) ∷ member (codes "fault") (quoted (codes "BadTable")) ∷ member (codes "row") (decimal row)
    ∷ member (codes "table") (quoted (table_name table)) ∷ [])

-- a word of the schedule that is no client's number
abbrev pub of_word : ℕ → List ℕ
of_word word = line (member (codes "fault") (quoted (codes "BadSchedule")) ∷ member (codes "word") (decimal word) ∷ [])

-- a chunk with more nodes than its ids have numbers
abbrev pub of_chunk : ℕ → ℕ → ℕ → ℕ → List ℕ
of_chunk layer x y z =
    line
    (member (codes "fault") (quoted (codes "IdsSpent")) ∷ member (codes "layer") (decimal layer) ∷ member (codes "x") (decimal x) ∷ member (codes "y") (decimal y)
    ∷ member (codes "z") (decimal z) ∷ [])

-- more records than the capacity
abbrev pub of_capacity : ℕ → ℕ → List ℕ
of_capacity need given =
    line (member (codes "fault") (quoted (codes "TooSmall")) ∷ member (codes "given") (decimal given) ∷ member (codes "need") (decimal need) ∷ [])

-- the fault line of a call that stopped before its sessions
unfoldable pub stop_text : Stop → List ℕ
stop_text stops.BadWords = bare (codes "BadWords")
stop_text (stops.ReadFault client file) = of_file client (codes "ReadFault") file
stop_text (stops.WriteFault client file) = of_file client (codes "WriteFault") file
stop_text (stops.TooLong client file) = of_file client (codes "TooLong") file
stop_text (stops.BadTable table row cause) = of_table table row cause
stop_text (stops.BadSchedule word) = of_word word
stop_text (stops.IdsSpent layer x y z) = of_chunk layer x y z
stop_text (stops.TooSmall need given) = of_capacity need given
stop_text stops.NoMemory = bare (codes "NoMemory")

-- the name of a session's fault
unfoldable pub fault_name : Fault → List ℕ
fault_name faults.ReadFault = codes "ReadFault"
fault_name faults.WriteFault = codes "WriteFault"
fault_name faults.TooLong = codes "TooLong"

-- a client and its fault
abbrev pub client_fault_text : ClientFault → List ℕ
client_fault_text f = array (decimal f.client ∷ quoted (fault_name f.fault) ∷ [])

-- the last line of a call that came past its sessions
unfoldable pub summary_line : ℕ → ℕ → ℕ → List ClientFault → ℕ → ℕ → ℕ → ℕ → ℕ → List ℕ
summary_line accepted clients entries faults lines records refused roots status =
    line
    (member (codes "accepted") (decimal accepted) ∷ member (codes "clients") (decimal clients) ∷ member (codes "entries") (decimal entries)
    ∷ member (codes "faults") (array (map client_fault_text faults)) ∷ member (codes "lines") (decimal lines) ∷ member (codes "records") (decimal records)
    ∷ member (codes "refused") (decimal refused) ∷ member (codes "roots") (decimal roots) ∷ member (codes "status") (decimal status) ∷ [])

abbrev pub summary_text : Summary → List ℕ
summary_text s = summary_line s.accepted s.clients s.entries s.faults.items s.lines s.records s.refused s.roots (code s.status)

-- the line of a call that made all files
unfoldable pub made_line : ℕ → ℕ → ℕ → List ℕ
made_line edges lines supervoxels =
    line
    (member (codes "edges") (decimal edges) ∷ member (codes "lines") (decimal lines) ∷ member (codes "status") (decimal 0)
    ∷ member (codes "supervoxels") (decimal supervoxels) ∷ [])
