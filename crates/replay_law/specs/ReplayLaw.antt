-- Entries that are made where the report of a legal history is judged, turn by turn (this project's own). Histories have the
-- newest entry first: of `later ++ e ∷ past` the entries `later` come after `e`.
use Rattle.std.specs.Prelude.{◌≡◌, ℕ, List, ◌∷◌, ◌++◌, Some}
use Rattle.xc_base.specs.declared.names.Kind.{Kind}
use Rattle.call_journal.specs.declared.entry.Entry.{Entry}
use Rattle.call_journal.specs.declared.entry.What.{What}
use Rattle.session_lines.specs.declared.session.Session.{Session}
use Rattle.session_plan.specs.PlanOfSession.{plan_of}
use Rattle.session_plan.specs.ReadablePayloads.{is_response}
use Rattle.entry_law.specs.xds_history.Setting.{setting_of}
use Rattle.entry_law.specs.xds_history.Responses.{answered_kind, refused_in}
use Rattle.entry_law.specs.xds_history.Right.{Right}
use Rattle.entry_law.specs.legal_history.Legal.{Legal}
use Rattle.book_progress.specs.PlayedPlans.{IsPlayed}
use Rattle.listed_events.specs.listed_patterns.ListedPatterns.{listed_in}
use Rattle.listed_events.specs.ListedEvents.{ListsFor}

-- an entry that answers a response tells as refused the texts that these lines list for it
abbrev pub RefusesAsListed : List ℕ → What → Type 0
RefusesAsListed lines (What.Driver event reply) =
    (kind : Kind) (listed : List (List ℕ)) → answered_kind reply.verdict ≡ Some kind → ListsFor event lines listed → reply.refused ≡ listed
RefusesAsListed lines (What.Caller event reply) = Unit {0}

-- An entry was made in the turn of `e`, over the entries before it: it is right there, it plays the plan of the session, it is
-- of the same actor, and it refuses what lines list for it that list what `e` refused.
pub record IsReplayOf (session : Session) (past : List Entry) (e made : Entry) : Type 0 where
  pub right : Right (setting_of session.boot session.target) (made ∷ past)
  pub played : IsPlayed (Some (plan_of is_response session)) (made ∷ past)
  pub actor_is : made.actor ≡ e.actor
  -- the bytes that are left of a report there
  pub more : List ℕ
  pub listed : listed_in more ≡ Some (refused_in e.what)
  pub refused : RefusesAsListed more made.what

-- an entry that is made in the turn of an entry of a legal history is that entry
abbrev pub ReplayedIsOne : Type 0
ReplayedIsOne =
    (session : Session) (later past : List Entry) (e made : Entry) → Legal session (later ++ e ∷ past) → IsReplayOf session past e made
    → made ≡ e
