-- Faults, as a program reports them.
use Rattle.std.specs.Prelude.{ℕ, List, ◌++◌, codes, decimal}
use Rattle.replay_driver.specs.declared.fault.Fault.{Fault}
use Rattle.replay_driver.specs.declared.fault.Fault.TheVariants as faults

-- the exit status
abbrev pub status_of : Fault → ℕ
status_of (faults.BadLine line) = 2
status_of faults.Read = 3
status_of faults.Write = 3
status_of faults.Memory = 4

-- the line on standard error
abbrev pub message_of : Fault → List ℕ
message_of (faults.BadLine line) = codes "bad line " ++ decimal line
message_of faults.Read = codes "read failed"
message_of faults.Write = codes "write failed"
message_of faults.Memory = codes "out of memory"
