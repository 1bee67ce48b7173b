-- The status with which the program ends (this project's own).
use Rattle.std.specs.Prelude.{Result, Ok, Err}
use Rattle.xc_base.specs.declared.streams.ReadFault.{ReadFault}
use Rattle.xc_base.specs.declared.streams.ReadFault.TheVariants as read
use Rattle.line_output.specs.declared.out_fault.OutFault.{OutFault}
use Rattle.line_output.specs.declared.out_fault.OutFault.TheVariants as out
use Rattle.session_lines.specs.declared.cause.SessionFault.{SessionFault}
use Rattle.session_lines.specs.declared.cause.SessionFault.TheVariants as fault
use Rattle.program_status.specs.declared.statuses.Status.{Status}
use Rattle.program_status.specs.declared.statuses.Status.TheVariants as status

-- the status of a source that wasn't read to its end
abbrev pub read_status : ReadFault → Status
read_status read.Failed = status.ReadFault
read_status read.Memory = status.Memory

-- the status of bytes that are no session, or that weren't read as one for want of memory
abbrev pub status_of : SessionFault → Status
status_of (fault.Script line cause) = status.Session line cause
status_of fault.Memory = status.Memory

-- the status of what was written
abbrev pub write_status : Result Unit OutFault → Status
write_status (Ok done) = status.Done
write_status (Err out.WriteFault) = status.WriteFault
write_status (Err out.Memory) = status.Memory
