-- In which kind a response is answered doesn't depend on the texts that are refused, and an answered one refuses the texts at
-- which its checks stop. So where they are those that a report lists, they are the same.
use Rattle.std.proofs.Common.{◌≡◌, ℕ, List, [], Bool, true, false, Option, Some, None, Result, Ok, Err, refl, sym, ap, ◌∙◌, subst, if◌then◌else◌}
use Rattle.std.specs.Prelude.{is_ok}
use Rattle.std.specs.List.{list_all}
use Rattle.std.specs.Result.{result_ok}
use Rattle.xc_base.specs.declared.names.Kind.{Kind}
use Rattle.xc_base.specs.declared.names.Authority.{Authority}
use Rattle.proto_discovery.specs.declared.response.Response.{Response}
use Rattle.proto_discovery.specs.Response.{response_of}
use Rattle.proto_discovery.specs.TypeUrls.{kind_of}
use Rattle.resource_check.specs.declared.delivery.Delivery.{Delivery}
use Rattle.resource_check.specs.Deliveries.{stops_in, stops_with}
use Rattle.ads_stream.specs.declared.verdict.Verdict.{Verdict}
use Rattle.call_journal.specs.declared.event.DriverEvent.{DriverEvent}
use Rattle.call_journal.specs.declared.reply.DriverReply.{DriverReply}
use Rattle.call_journal.specs.declared.entry.What.{What}
use Rattle.call_journal.specs.declared.entry.Entry.{Entry}
use Rattle.xds_bootstrap.specs.declared.bootstrap.Bootstrap.{Bootstrap}
use Rattle.xds_name.specs.declared.target.Target.{Target}
use Rattle.entry_law.specs.xds_history.Setting.{Setting, setting_of}
use Rattle.entry_law.specs.xds_history.Streams.{is_up}
use Rattle.entry_law.specs.xds_history.Responses.{answered, answered_kind, is_asked, parts, refused_in, stopped_at, told_by, verdict, verdict_on_kind, verdict_on_parts, verdict_on_reading}
use Rattle.entry_law.specs.xds_history.Pages.{came, pages}
use Rattle.entry_law.specs.xds_history.Right.{IsReply}
use Rattle.listed_events.specs.listed_patterns.ListedPatterns.{listed_in}
use Rattle.listed_check.specs.ListedAnswers.{refuses}
use Rattle.book_progress.specs.PlayedPlans.{step_in}
use Rattle.replay_law.specs.ReplayLaw.{RefusesAsListed}

-- ---- the kind in which a response is answered, whatever is refused

abbrev kind_asked : List Entry → Authority → Option Kind → Option Kind
kind_asked past a None = None
kind_asked past a (Some kind) = if is_asked a kind past then Some kind else None

abbrev kind_read : Setting → List Entry → Authority → Option Response → Option Kind
kind_read s past a None = None
kind_read s past a (Some r) = kind_asked past a (s.kind_of r.type_url)

abbrev kind_told : Setting → List Entry → Authority → List ℕ → Option Kind
kind_told s past a payload = if is_up a past then kind_read s past a (s.read payload) else None

on_parts : (b : Bool) (kind : Kind) → answered_kind (if b then Verdict.Ack kind else Verdict.Nack kind) ≡ Some kind
on_parts true kind = refl
on_parts false kind = refl

where_asked : (b : Bool) (kind : Kind) (ps : List Delivery) → answered_kind (if b then verdict_on_parts kind ps else Verdict.Ignored) ≡ (if b then Some kind else None)
where_asked true kind ps = on_parts (list_all (λ p. is_ok p.result) ps) kind
where_asked false kind ps = refl

of_kind : (s : Setting) (past : List Entry) (a : Authority) (r : Response) (refused : List (List ℕ)) (found : Option Kind)
    → answered_kind (verdict_on_kind s past a r refused found) ≡ kind_asked past a found
of_kind s past a r refused None = refl
of_kind s past a r refused (Some kind) = where_asked (is_asked a kind past) kind (parts s kind r.resources refused)

of_reading : (s : Setting) (past : List Entry) (a : Authority) (refused : List (List ℕ)) (found : Option Response)
    → answered_kind (verdict_on_reading s past a refused found) ≡ kind_read s past a found
of_reading s past a refused None = refl
of_reading s past a refused (Some r) = of_kind s past a r refused (s.kind_of r.type_url)

where_up : (b : Bool) (on : Verdict) (found : Option Kind) → answered_kind on ≡ found → answered_kind (if b then on else Verdict.Closed) ≡ (if b then found else None)
where_up true on found is = is
where_up false on found is = refl

of_response : (s : Setting) (past : List Entry) (a : Authority) (payload : List ℕ) (refused : List (List ℕ))
    → answered_kind (verdict s past (DriverEvent.Response a payload) refused) ≡ kind_told s past a payload
of_response s past a payload refused =
    where_up (is_up a past) (verdict_on_reading s past a refused (s.read payload)) (kind_read s past a (s.read payload)) (of_reading s past a refused (s.read payload))

-- ---- the texts at which the checks of an answered response stop

-- where something is found under a test, it was found
under_test : (b : Bool) (found : Option Kind) (kind : Kind) → (if b then found else None) ≡ Some kind → found ≡ Some kind
under_test true found kind is = is
under_test false found kind is = absurd (cc is)

kind_found : (past : List Entry) (a : Authority) (found : Option Kind) (kind : Kind) → kind_asked past a found ≡ Some kind → found ≡ Some kind
kind_found past a None kind is = is
kind_found past a (Some other) kind is = under_test (is_asked a other past) (Some other) kind is

stops_are : (boot : Bootstrap) (target : Target) (past : List Entry) (a : Authority) (refused : List (List ℕ)) (found : Result Response ℕ) (kind : Kind)
    → kind_read (setting_of boot target) past a (result_ok found) ≡ Some kind
    → stopped_at (setting_of boot target) refused (told_by (setting_of boot target) a refused (result_ok found) (Some kind)) ≡ stops_with (refuses refused) found
stops_are boot target past a refused (Ok r) kind is =
    ap (λ (k : Option Kind). stops_in (refuses refused) k r.resources) (sym (kind_found past a (kind_of r.type_url) kind is))
stops_are boot target past a refused (Err at) kind is = refl

-- no kind, nothing told
told_none : (s : Setting) (a : Authority) (refused : List (List ℕ)) (found : Option Response) → told_by s a refused found None ≡ None
told_none s a refused None = refl
told_none s a refused (Some r) = refl

-- ---- replies to one event

-- what a right history says of a driver's reply, but for what was sent and what stands then
record Answers (s : Setting) (past : List Entry) (event : DriverEvent) (reply : DriverReply) : Type 0 where
  verdict_is : reply.verdict ≡ verdict s past event reply.refused
  refused_is : reply.refused ≡ stopped_at s reply.refused (answered s (came event reply))

kind_is : (s : Setting) (past : List Entry) (a : Authority) (payload : List ℕ) (reply : DriverReply) (k : Option Kind)
    → Answers s past (DriverEvent.Response a payload) reply → kind_told s past a payload ≡ k → answered_kind reply.verdict ≡ k
kind_is s past a payload reply k h is = ap answered_kind h.verdict_is ∙ (of_response s past a payload reply.refused ∙ is)

refused_at : (s : Setting) (past : List Entry) (a : Authority) (payload : List ℕ) (reply : DriverReply) (k : Option Kind)
    → Answers s past (DriverEvent.Response a payload) reply → kind_told s past a payload ≡ k
    → reply.refused ≡ stopped_at s reply.refused (told_by s a reply.refused (s.read payload) k)
refused_at s past a payload reply k h is =
    h.refused_is ∙ ap (λ (x : Option Kind). stopped_at s reply.refused (told_by s a reply.refused (s.read payload) x)) (kind_is s past a payload reply k h is)

refused_none : (s : Setting) (past : List Entry) (a : Authority) (payload : List ℕ) (reply : DriverReply)
    → Answers s past (DriverEvent.Response a payload) reply → kind_told s past a payload ≡ None → reply.refused ≡ []
refused_none s past a payload reply h is =
    refused_at s past a payload reply None h is ∙ ap (stopped_at s reply.refused) (told_none s a reply.refused (s.read payload))

-- a response: in one kind both are answered, or neither is
response_alike : (boot : Bootstrap) (target : Target) (past : List Entry) (a : Authority) (payload lines : List ℕ) (reply answer : DriverReply) (k : Option Kind)
    → kind_told (setting_of boot target) past a payload ≡ k
    → Answers (setting_of boot target) past (DriverEvent.Response a payload) reply → Answers (setting_of boot target) past (DriverEvent.Response a payload) answer
    → listed_in lines ≡ Some reply.refused → RefusesAsListed lines (What.Driver (DriverEvent.Response a payload) answer) → answer.refused ≡ reply.refused
response_alike boot target past a payload lines reply answer None is h g lists refuse =
    let s : Setting = setting_of boot target in
    refused_none s past a payload answer g is ∙ sym (refused_none s past a payload reply h is)
response_alike boot target past a payload lines reply answer (Some kind) is h g lists refuse =
    let s : Setting = setting_of boot target in
    let read : kind_read s past a (s.read payload) ≡ Some kind = under_test (is_up a past) (kind_read s past a (s.read payload)) kind is in
    refuse kind reply.refused (kind_is s past a payload answer (Some kind) g is) (record {
      lists = lists;
      stops = refused_at s past a payload reply (Some kind) h is ∙ stops_are boot target past a reply.refused (response_of payload) kind read;
    })

event_alike : (boot : Bootstrap) (target : Target) (past : List Entry) (event : DriverEvent) (lines : List ℕ) (reply answer : DriverReply)
    → Answers (setting_of boot target) past event reply → Answers (setting_of boot target) past event answer
    → listed_in lines ≡ Some reply.refused → RefusesAsListed lines (What.Driver event answer) → answer.refused ≡ reply.refused
event_alike boot target past (DriverEvent.Opened a) lines reply answer h g lists refuse = g.refused_is ∙ sym h.refused_is
event_alike boot target past (DriverEvent.Response a payload) lines reply answer h g lists refuse =
    response_alike boot target past a payload lines reply answer (kind_told (setting_of boot target) past a payload) refl h g lists refuse
event_alike boot target past (DriverEvent.Bytes a how) lines reply answer h g lists refuse = g.refused_is ∙ sym h.refused_is
event_alike boot target past (DriverEvent.Lost a) lines reply answer h g lists refuse = g.refused_is ∙ sym h.refused_is
event_alike boot target past (DriverEvent.Moment time) lines reply answer h g lists refuse = g.refused_is ∙ sym h.refused_is
event_alike boot target past (DriverEvent.Endpoint address state) lines reply answer h g lists refuse = g.refused_is ∙ sym h.refused_is
event_alike boot target past DriverEvent.Sweep lines reply answer h g lists refuse = g.refused_is ∙ sym h.refused_is

-- ---- entries of one step

pub refused_alike : (boot : Bootstrap) (target : Target) (past : List Entry) (e made : Entry) (lines : List ℕ) (what other : What)
    → IsReply (setting_of boot target) e what past (pages (setting_of boot target) past) → IsReply (setting_of boot target) made other past (pages (setting_of boot target) past)
    → step_in other ≡ step_in what → listed_in lines ≡ Some (refused_in what) → RefusesAsListed lines other → refused_in other ≡ refused_in what
refused_alike boot target past e made lines (What.Driver event reply) (What.Driver called answer) h g steps lists refuse =
    let same : called ≡ event = cc steps in
    event_alike boot target past event lines reply answer (record { verdict_is = h.verdict_is; refused_is = h.refused_is })
    (subst (λ (x : DriverEvent). Answers (setting_of boot target) past x answer) same (record { verdict_is = g.verdict_is; refused_is = g.refused_is })) lists
    (subst (λ (x : DriverEvent). RefusesAsListed lines (What.Driver x answer)) same refuse)
refused_alike boot target past e made lines (What.Driver event reply) (What.Caller called answer) h g steps lists refuse = absurd (cc steps)
refused_alike boot target past e made lines (What.Caller event reply) (What.Driver called answer) h g steps lists refuse = absurd (cc steps)
refused_alike boot target past e made lines (What.Caller event reply) (What.Caller called answer) h g steps lists refuse = refl
