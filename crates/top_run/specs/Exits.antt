-- What the program tells of how a run ended: the number that it exits with, and a text.
use Rattle.std.specs.Prelude.{ℕ, List, ◌++◌, codes, decimal}
use Rattle.run_inputs.specs.Script.{kind_word}
use Rattle.top_run.specs.declared.runs.Status.{Status}
use Rattle.top_run.specs.declared.runs.Status.TheVariants as status

-- The number that the program exits with.
abbrev pub exit_code : Status → ℕ
exit_code status.Done = 0
exit_code status.Usage = 1
exit_code (status.Script row kind) = 2
exit_code status.ReadFault = 3
exit_code status.WriteFault = 4
exit_code status.DoorFault = 5
exit_code status.KeepFault = 6
exit_code status.FileFault = 7
exit_code status.Memory = 10
exit_code (status.Spent shard) = 11

-- What stands in the line on standard error: the kind of fault, and where it is. Done has no such line.
abbrev pub status_text : Status → List ℕ
status_text status.Done = codes "done"
status_text status.Usage = codes "usage"
status_text (status.Script row kind) = codes "script line " ++ decimal row ++ codes " " ++ kind_word kind
status_text status.ReadFault = codes "read fault"
status_text status.WriteFault = codes "write fault"
status_text status.DoorFault = codes "door fault"
status_text status.KeepFault = codes "store fault"
status_text status.FileFault = codes "file fault"
status_text status.Memory = codes "memory"
status_text (status.Spent shard) = codes "spent " ++ decimal shard
