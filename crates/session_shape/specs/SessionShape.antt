-- What sessions that are read look like (this project's own format).
use Rattle.std.specs.Prelude.{◌≡◌, ℕ, ◌+◌, ◌≤◌, ◌<◌, List, [], ◌∷◌, length, Bool, true, false, Option, Some, None, Ok}
use Rattle.xc_base.specs.declared.names.Authority.{Authority}
use Rattle.xc_base.specs.declared.names.Kind.TheVariants.{Listener}
use Rattle.xds_bootstrap.specs.Authorities.{AreAuthorities}
use Rattle.xds_bootstrap.specs.declared.bootstrap.Bootstrap.{Bootstrap}
use Rattle.xds_name.specs.Names.{resource_key}
use Rattle.xds_name.specs.declared.target.Target.{Target}
use Rattle.session_lines.specs.Before.{call_in, entries, is_of_other, is_start, is_started}
use Rattle.session_lines.specs.Session.{session_of}
use Rattle.session_lines.specs.declared.session.Act.{Act}
use Rattle.session_lines.specs.declared.session.DriverLine.{DriverLine}
use Rattle.session_lines.specs.declared.session.DriverLine.TheVariants as driver
use Rattle.session_lines.specs.declared.session.Line.{Line}
use Rattle.session_lines.specs.declared.session.Session.{Session}
use Rattle.session_lines.specs.declared.session.Work.{Work}
use Rattle.session_lines.specs.declared.session.Work.TheVariants as work

-- ---- what a line does

-- an authority of the bootstrap
abbrev pub IsAuthorityOf : Bootstrap → Authority → Type 0
IsAuthorityOf boot authority = authority.0 < length boot.authorities

-- the authority that a line of the driver names is one of the bootstrap
abbrev pub IsDriven : Bootstrap → DriverLine → Type 0
IsDriven boot (driver.Opened authority) = IsAuthorityOf boot authority
IsDriven boot (driver.Bytes authority bytes) = IsAuthorityOf boot authority
IsDriven boot (driver.Lost authority) = IsAuthorityOf boot authority
IsDriven boot (driver.Moment time) = Unit {0}
IsDriven boot (driver.Endpoint address state) = Unit {0}
IsDriven boot driver.Sweep = Unit {0}

-- A line of a caller is one of the session's callers, no other caller has named its call, and a call that it starts wasn't
-- started before.
pub record IsCalled (callers : ℕ) (before : List Line) (caller : ℕ) (act : Act) : Type 0 where
  pub least : 1 ≤ caller
  pub most : caller ≤ callers
  pub own : is_of_other caller (call_in act) before ≡ false
  pub new : is_start act ≡ true → is_started (call_in act) before ≡ false

abbrev pub IsWork : Bootstrap → ℕ → List Line → Work → Type 0
IsWork boot callers before (work.Driver what) = IsDriven boot what
IsWork boot callers before (work.Caller caller act) = IsCalled callers before caller act

-- ---- lines

-- a gate is the number of an earlier line, from line 5 on
abbrev pub IsGate : ℕ → Option ℕ → Type 0
IsGate number None = Unit {0}
IsGate number (Some gate) = (5 ≤ gate) × (gate < number)

-- a line that follows these, of which the newest comes first
pub record IsLine (boot : Bootstrap) (callers : ℕ) (before : List Line) (line : Line) : Type 0 where
  pub number_is : line.number ≡ length before + 5
  pub gate_is : IsGate line.number line.gate
  pub work_is : IsWork boot callers before line.work

-- lines that follow these
abbrev pub AreLines : Bootstrap → ℕ → List Line → List Line → Type 0
AreLines boot callers before [] = Unit {0}
AreLines boot callers before (line ∷ lines) = IsLine boot callers before line × AreLines boot callers (line ∷ before) lines

-- ---- sessions

-- the key of a target is that of a listener's name
abbrev pub IsListener : Bootstrap → Target → Type 0
IsListener boot target = target.key ≡ resource_key boot.authorities Listener target.key.name

pub record IsWellFormed (session : Session) : Type 0 where
  pub authorities : AreAuthorities session.boot.authorities
  pub target : IsListener session.boot session.target
  pub least : 1 ≤ session.callers
  pub most : session.callers ≤ 16
  pub lines : AreLines session.boot session.callers [] session.lines
  pub few : entries session.lines + 1 ≤ 1048576

-- a session that bytes spell is well formed, where its authorities are those of a bootstrap
abbrev pub ReadIsWellFormed : Type 0
ReadIsWellFormed = (bytes : List ℕ) (session : Session) → session_of bytes ≡ Ok session → AreAuthorities session.boot.authorities → IsWellFormed session
