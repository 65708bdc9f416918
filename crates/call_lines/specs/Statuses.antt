-- The statuses of calls.
use Rattle.std.specs.Prelude.{ℕ}
use Rattle.call_lines.specs.declared.status.Status.{Status}
use Rattle.call_lines.specs.declared.status.Status.TheVariants as statuses
use Rattle.call_lines.specs.declared.stops.Stop.{Stop}
use Rattle.call_lines.specs.declared.stops.Stop.TheVariants as stops
use Rattle.call_lines.specs.declared.summary.Fault.{Fault}
use Rattle.call_lines.specs.declared.summary.Fault.TheVariants as faults

-- the number that the process ends with
abbrev pub code : Status → ℕ
code statuses.Done = 0
code statuses.BadWords = 1
code statuses.ReadFault = 2
code statuses.BadInput = 3
code statuses.WriteFault = 4
code statuses.NoMemory = 5
code statuses.Full = 6
code statuses.TooLong = 7

-- a call stopped before its sessions
abbrev pub status_of : Stop → Status
status_of stops.BadWords = statuses.BadWords
status_of (stops.ReadFault client file) = statuses.ReadFault
status_of (stops.WriteFault client file) = statuses.WriteFault
status_of (stops.TooLong client file) = statuses.TooLong
status_of (stops.BadTable table row cause) = statuses.BadInput
status_of (stops.BadSchedule word) = statuses.BadInput
status_of (stops.IdsSpent layer x y z) = statuses.Full
status_of (stops.TooSmall need given) = statuses.Full
status_of stops.NoMemory = statuses.NoMemory

-- this is the fault of the least client with one
abbrev pub fault_status : Fault → Status
fault_status faults.ReadFault = statuses.ReadFault
fault_status faults.WriteFault = statuses.WriteFault
fault_status faults.TooLong = statuses.TooLong
