-- The generated session of so many rounds, as data: what each of its lines has the driver or a caller do (this project's own
-- format).
use Rattle.std.specs.Prelude.{ℕ, zero, suc, ◌+◌, ◌%◌, ◌==◌, List, [], ◌∷◌, ◌++◌, codes, if◌then◌else◌, Option, Some, None}
use Rattle.xc_base.specs.declared.names.Home.{Home}
use Rattle.xc_base.specs.declared.names.Kind.{Kind}
use Rattle.xc_base.specs.declared.names.State.{State}
use Rattle.grpc_framing.specs.Framing.{frame}
use Rattle.xds_bootstrap.specs.declared.bootstrap.Bootstrap.{Bootstrap}
use Rattle.xds_name.specs.declared.target.Target.{Target}
use Rattle.session_lines.specs.WordValues.{default}
use Rattle.session_lines.specs.declared.session.Act.{Act}
use Rattle.session_lines.specs.declared.session.DriverLine.{DriverLine}
use Rattle.session_lines.specs.declared.session.Line.{Line}
use Rattle.session_lines.specs.declared.session.Session.{Session}
use Rattle.session_lines.specs.declared.session.Work.{Work}
use Rattle.session_generator.specs.FirstLines.{cluster_response, endpoint_response, listener_response}
use Rattle.session_generator.specs.Rounds.{first_call, line_before, word_of_call}

-- ---- lines 2 and 3

-- one server without credentials, and the node `n`
abbrev pub generated_boot : Bootstrap
generated_boot = record {
  authorities = record { name = []; server_uri = codes "ms:1"; template = codes "%s" } ∷ [];
  node = record { id = codes "n"; cluster = []; region = []; zone = []; sub_zone = [] };
}

-- the listener `svc` of the default authority
abbrev pub generated_target : Target
generated_target = record { key = record { kind = Kind.Listener; name = codes "svc"; home = Home.At default }; host = codes "svc" }

-- ---- lines

-- a line of the driver, and one of a caller, under its number and behind its gate
abbrev pub driven : ℕ → Option ℕ → DriverLine → Line
driven number gate what = record { number = number; gate = gate; work = Work.Driver what }

abbrev pub called : ℕ → Option ℕ → ℕ → Act → Line
called number gate caller what = record { number = number; gate = gate; work = Work.Caller caller what }

-- lines 5 to 12: a stream with three responses, and four endpoints that are ready
abbrev pub setup_lines : List Line
setup_lines =
    driven 5 None (DriverLine.Opened default)
    ∷ driven 6 None (DriverLine.Bytes default (frame listener_response))
    ∷ driven 7 None (DriverLine.Bytes default (frame cluster_response))
    ∷ driven 8 None (DriverLine.Bytes default (frame endpoint_response))
    ∷ driven 9 None (DriverLine.Endpoint (codes "10.0.0.1:80") State.Ready)
    ∷ driven 10 None (DriverLine.Endpoint (codes "10.0.0.2:80") State.Ready)
    ∷ driven 11 None (DriverLine.Endpoint (codes "10.0.1.1:80") State.Ready)
    ∷ driven 12 None (DriverLine.Endpoint (codes "10.0.1.2:80") State.Ready)
    ∷ []

-- the four lines of a call of a caller, from this number on: it starts after the gate, picks twice, and is committed
abbrev pub lines_of_call : ℕ → ℕ → ℕ → ℕ → List Line
lines_of_call number gate caller call =
    called number (Some gate) caller (Act.Start record { id = record { 0 = call }; path = codes "/load.S/M"; headers = []; word = word_of_call call })
    ∷ called (number + 1) None caller (Act.Pick record { 0 = call } (word_of_call call))
    ∷ called (number + 2) None caller (Act.Pick record { 0 = call } (word_of_call call))
    ∷ called (number + 3) None caller (Act.Commit record { 0 = call })
    ∷ []

-- the endpoint that changes fails in odd rounds, and is ready again in even ones
abbrev pub state_in_round : ℕ → State
state_in_round round = if round % 2 == 1 then State.Failing else State.Ready

-- the four lines of the driver in a round, behind the last lines of the callers in turn
abbrev pub driver_lines_of : ℕ → ℕ → List Line
driver_lines_of before round =
    driven (before + 17) (Some (before + 4)) (DriverLine.Moment record { 0 = round })
    ∷ driven (before + 18) (Some (before + 8)) (DriverLine.Moment record { 0 = round })
    ∷ driven (before + 19) (Some (before + 12)) (DriverLine.Moment record { 0 = round })
    ∷ driven (before + 20) (Some (before + 16)) (DriverLine.Endpoint (codes "10.0.0.1:80") (state_in_round round))
    ∷ []

-- the twenty lines behind this line in a round, of which this is the first call
abbrev pub lines_behind : ℕ → ℕ → ℕ → List Line
lines_behind before call round =
    lines_of_call (before + 1) before 1 call
    ++ lines_of_call (before + 5) before 2 (call + 1)
    ++ lines_of_call (before + 9) before 3 (call + 2)
    ++ lines_of_call (before + 13) before 4 (call + 3)
    ++ driver_lines_of before round

-- the lines of a round, from 1
abbrev pub lines_of_round : ℕ → List Line
lines_of_round round = lines_behind (line_before round) (first_call round) round

-- lines 5 to 12, and then so many rounds
abbrev pub generated_lines : ℕ → List Line
generated_lines zero = setup_lines
generated_lines (suc n) = generated_lines n ++ lines_of_round (suc n)

abbrev pub generated_session : ℕ → Session
generated_session n = record { boot = generated_boot; target = generated_target; callers = 4; lines = generated_lines n }
