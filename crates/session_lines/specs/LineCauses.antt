-- The words of the causes, and where a fault is (this project's own format).
use Rattle.std.specs.Prelude.{ℕ, List, codes}
use Rattle.session_lines.specs.declared.cause.Cause.{Cause}
use Rattle.session_lines.specs.declared.cause.Cause.TheVariants as cause
use Rattle.session_lines.specs.declared.cause.LineFault.{LineFault}
use Rattle.session_lines.specs.declared.cause.LineFault.TheVariants as line
use Rattle.session_lines.specs.declared.cause.SessionFault.{SessionFault}
use Rattle.session_lines.specs.declared.cause.SessionFault.TheVariants as session

abbrev pub cause_word : Cause → List ℕ
cause_word cause.Size = codes "size"
cause_word cause.Lines = codes "lines"
cause_word cause.Text = codes "text"
cause_word cause.Header = codes "header"
cause_word cause.Boot = codes "boot"
cause_word cause.Target = codes "target"
cause_word cause.Callers = codes "callers"
cause_word cause.Word = codes "word"
cause_word cause.Gate = codes "gate"
cause_word cause.Authority = codes "authority"
cause_word cause.Hex = codes "hex"
cause_word cause.Bytes = codes "bytes"
cause_word cause.Number = codes "number"
cause_word cause.Time = codes "time"
cause_word cause.Address = codes "address"
cause_word cause.State = codes "state"
cause_word cause.Caller = codes "caller"
cause_word cause.Call = codes "call"
cause_word cause.Path = codes "path"
cause_word cause.Field = codes "field"
cause_word cause.Short = codes "short"
cause_word cause.Entries = codes "entries"

-- a line's fault, with the number of the line
abbrev pub fault_at : ℕ → LineFault → SessionFault
fault_at n (line.Because cause) = session.Script n cause
fault_at n line.Memory = session.Memory
