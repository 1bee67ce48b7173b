-- The line of a driver's entry, behind its numbers.
use Rattle.std.specs.Prelude.{ℕ, ◌++◌, List, Option, Some, None, codes}
use Rattle.std.specs.Fmt.{decimal}
use Rattle.xc_base.specs.declared.names.State.{State}
use Rattle.xc_base.specs.declared.names.Key.{Key}
use Rattle.xds_bootstrap.specs.declared.bootstrap.AuthorityEntry.{AuthorityEntry}
use Rattle.ads_stream.specs.declared.verdict.Verdict.{Verdict}
use Rattle.ads_stream.specs.declared.verdict.Verdict.TheVariants as verdict
use Rattle.call_journal.specs.declared.event.DriverEvent.{DriverEvent}
use Rattle.call_journal.specs.declared.event.DriverEvent.TheVariants.{Opened, Response, Bytes, Lost, Moment, Endpoint as Report, Sweep}
use Rattle.call_journal.specs.declared.event.BytesHow.{BytesHow}
use Rattle.call_journal.specs.declared.event.BytesHow.TheVariants as how
use Rattle.call_journal.specs.declared.reply.DriverReply.{DriverReply}
use Rattle.tree_text.specs.Escapes.{escaped}
use Rattle.tree_text.specs.TreeText.{state_word}
use Rattle.report_parts.specs.ReportWords.{authority_text, kind_word}

abbrev pub endpoint_text : List ℕ → State → List ℕ
endpoint_text address state = codes "endpoint " ++ address ++ codes " " ++ state_word state

abbrev pub event_text : List AuthorityEntry → DriverEvent → List ℕ
event_text authorities (Opened a) = codes "open " ++ authority_text authorities a
event_text authorities (Response a payload) = codes "response " ++ authority_text authorities a
event_text authorities (Bytes a how) = codes "bytes " ++ authority_text authorities a
event_text authorities (Lost a) = codes "lost " ++ authority_text authorities a
event_text authorities (Moment t) = codes "time " ++ decimal t.0
event_text authorities (Report address state) = endpoint_text address state
event_text authorities Sweep = codes "sweep"

abbrev pub how_text : BytesHow → List ℕ
how_text how.Whole = codes "ok"
how_text how.Closed = codes "closed"
how_text how.Compressed = codes "compressed"
how_text (how.TooLong n) = codes "toolong " ++ decimal n
how_text how.Ended = codes "ended"

abbrev pub verdict_text : Verdict → List ℕ
verdict_text verdict.Done = codes "ok"
verdict_text verdict.Closed = codes "closed"
verdict_text (verdict.Ack kind) = codes "ack " ++ kind_word kind
verdict_text (verdict.Nack kind) = codes "nack " ++ kind_word kind
verdict_text verdict.Ignored = codes "ignored"
verdict_text verdict.Unreadable = codes "unreadable"

-- what became of an event
abbrev pub outcome_text : DriverEvent → Verdict → List ℕ
outcome_text (Opened a) v = verdict_text v
outcome_text (Response a payload) v = verdict_text v
outcome_text (Bytes a h) v = how_text h
outcome_text (Lost a) v = verdict_text v
outcome_text (Moment t) v = verdict_text v
outcome_text (Report address state) v = verdict_text v
outcome_text Sweep v = verdict_text v

-- what is awaited
abbrev pub missing_text : Option Key → List ℕ
missing_text None = codes " whole"
missing_text (Some key) = codes " wait " ++ kind_word key.kind ++ codes ":" ++ escaped key.name

unfoldable pub driver_line : List AuthorityEntry → DriverEvent → DriverReply → List ℕ
driver_line authorities event reply =
    codes "d " ++ event_text authorities event ++ codes " " ++ outcome_text event reply.verdict ++ missing_text reply.missing ++ codes "\n"
