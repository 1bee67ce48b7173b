-- What a plan lists for each actor, and the histories that play it (this project's own). Histories have the newest entry
-- first.
use Rattle.std.specs.Prelude.{◌≡◌, ℕ, ◌+◌, List, [], ◌∷◌, length, slice_get, Bool, true, false, Option, Some, None}
use Rattle.xc_base.specs.declared.call.Call.{Call}
use Rattle.call_journal.specs.declared.event.DriverEvent.{DriverEvent}
use Rattle.call_journal.specs.declared.event.CallerEvent.{CallerEvent}
use Rattle.call_journal.specs.declared.reply.CallerReply.{CallerReply}
use Rattle.call_journal.specs.declared.entry.What.{What}
use Rattle.call_journal.specs.declared.entry.Entry.{Entry}
use Rattle.call_journal.specs.declared.plan.Count.{Count}
use Rattle.call_journal.specs.declared.plan.Listed.{Listed}
use Rattle.call_journal.specs.declared.plan.ListedEvent.{ListedEvent}
use Rattle.book_progress.specs.ActorCounts.{count_of, actor_entries}
use Rattle.book_progress.specs.EndedLines.{IsOpen}

-- all events of a list have ended, and no pin is up
abbrev pub all_ended : List Listed → Count
all_ended list = record { ended = length list; pins = 0 }

-- ---- entries that play a listed event

abbrev pub driver_event : What → Option DriverEvent
driver_event (What.Driver event reply) = Some event
driver_event (What.Caller event reply) = None

abbrev pub caller_event : What → Option CallerEvent
caller_event (What.Driver event reply) = None
caller_event (What.Caller event reply) = Some event

-- the one entry of an event that isn't a start
abbrev pub IsOne : ListedEvent → What → Type 0
IsOne (ListedEvent.Driver event) what = driver_event what ≡ Some event
IsOne (ListedEvent.Start call) what = ⊥
IsOne (ListedEvent.Pick id word) what = caller_event what ≡ Some (CallerEvent.Pick id word)
IsOne (ListedEvent.Commit id) what = caller_event what ≡ Some (CallerEvent.Commit id)

abbrev pub is_pinned : CallerReply → Bool
is_pinned (CallerReply.Pinned number) = true
is_pinned _ = false

abbrev pub got_snapshot : What → Bool
got_snapshot (What.Driver event reply) = false
got_snapshot (What.Caller event reply) = is_pinned reply

-- the pin of a start, and whether it got a snapshot
pub record IsPin (event : ListedEvent) (what : What) (got : Bool) : Type 0 where
  pub call : Call
  pub start : event ≡ ListedEvent.Start call
  pub pin : caller_event what ≡ Some (CallerEvent.Pin call)
  pub reply : got_snapshot what ≡ got

pub record IsHold (event : ListedEvent) (what : What) : Type 0 where
  pub call : Call
  pub start : event ≡ ListedEvent.Start call
  pub hold : caller_event what ≡ Some (CallerEvent.Hold call)

-- ---- the first events of a list

-- of an actor's list the first `ended` events have been played, and then the pin of one more where `pins` is 1
pub data HasPlayed (list : List Listed) : ℕ → ℕ → List Entry → Type 0 where
  none : HasPlayed list 0 0 []
  one : (n : ℕ) → (next : Listed) → (e : Entry) → (past : List Entry) → slice_get list n ≡ Some next → e.line ≡ next.line → IsOne next.event e.what
      → HasPlayed list n 0 past → HasPlayed list (n + 1) 0 (e ∷ past)
  pin : (n : ℕ) → (next : Listed) → (e : Entry) → (past : List Entry) → slice_get list n ≡ Some next → e.line ≡ next.line → IsPin next.event e.what false
      → HasPlayed list n 0 past → HasPlayed list (n + 1) 0 (e ∷ past)
  up : (n : ℕ) → (next : Listed) → (e : Entry) → (past : List Entry) → slice_get list n ≡ Some next → e.line ≡ next.line → IsPin next.event e.what true
      → HasPlayed list n 0 past → HasPlayed list n 1 (e ∷ past)
  held : (n : ℕ) → (next : Listed) → (e : Entry) → (past : List Entry) → slice_get list n ≡ Some next → e.line ≡ next.line → IsHold next.event e.what
      → HasPlayed list n 1 past → HasPlayed list (n + 1) 0 (e ∷ past)

-- ---- a plan

-- what the plan lists for an entry of this actor, where it has come so far
pub record IsListed (plan : List (List Listed)) (actor : ℕ) (count : Count) (listed : Listed) : Type 0 where
  pub list : List Listed
  pub actor_is : slice_get plan actor ≡ Some list
  pub next_is : slice_get list count.ended ≡ Some listed

-- the listed event of an entry, whose gate was open
pub record IsGated (plan : List (List Listed)) (e : Entry) (past : List Entry) : Type 0 where
  pub listed : Listed
  pub is : IsListed plan e.actor (count_of e.actor past) listed
  pub gate : IsOpen listed.after past

abbrev pub AreGated : List (List Listed) → List Entry → Type 0
AreGated plan [] = Unit {0}
AreGated plan (e ∷ past) = IsGated plan e past × AreGated plan past

-- Each actor has played the first of its listed events, as many as it counts, and the pin of one more where one is up. Each
-- entry stands after the line that gates its event.
pub record IsPlanPlayed (plan : List (List Listed)) (history : List Entry) : Type 0 where
  pub played : (actor : ℕ) (list : List Listed) → slice_get plan actor ≡ Some list →
      HasPlayed list (count_of actor history).ended (count_of actor history).pins (actor_entries actor history)
  pub gated : AreGated plan history

-- the same where there is a plan
abbrev pub IsPlayed : Option (List (List Listed)) → List Entry → Type 0
IsPlayed None history = Unit {0}
IsPlayed (Some plan) history = IsPlanPlayed plan history

-- ---- the next step of an actor

-- what an actor does: an event of the driver, or of a caller
pub data Step : Type 0 where
  driver : DriverEvent → Step
  caller : CallerEvent → Step

abbrev pub step_in : What → Step
step_in (What.Driver event reply) = driver event
step_in (What.Caller event reply) = caller event

abbrev pub IsCallStep : CallerEvent → ListedEvent → ℕ → Type 0
IsCallStep (CallerEvent.Pin call) listed pins = (listed ≡ ListedEvent.Start call) × (pins ≡ 0)
IsCallStep (CallerEvent.Hold call) listed pins = (listed ≡ ListedEvent.Start call) × (pins ≡ 1)
IsCallStep (CallerEvent.Pick id word) listed pins = (listed ≡ ListedEvent.Pick id word) × (pins ≡ 0)
IsCallStep (CallerEvent.Commit id) listed pins = (listed ≡ ListedEvent.Commit id) × (pins ≡ 0)

-- where so many pins of its actor are up, this step is the next one of a listed event
abbrev pub IsStep : Step → ListedEvent → ℕ → Type 0
IsStep (driver event) listed pins = (listed ≡ ListedEvent.Driver event) × (pins ≡ 0)
IsStep (caller event) listed pins = IsCallStep event listed pins

-- A line and a step are the next listed ones of an actor that has come so far, and the line that gates them has ended.
pub record IsNextOf (plan : List (List Listed)) (actor : ℕ) (count : Count) (line : ℕ) (step : Step) (history : List Entry) : Type 0 where
  pub listed : Listed
  pub is : IsListed plan actor count listed
  pub line_is : line ≡ listed.line
  pub step_is : IsStep step listed.event count.pins
  pub gate : IsOpen listed.after history

-- the same where there is a plan
abbrev pub IsNext : Option (List (List Listed)) → ℕ → Count → ℕ → Step → List Entry → Type 0
IsNext None actor count line step history = Unit {0}
IsNext (Some plan) actor count line step history = IsNextOf plan actor count line step history

-- ---- laws

-- an entry that is the next one of its actor goes on playing the plan
abbrev pub PlayGoesOn : Type 0
PlayGoesOn = (plan : Option (List (List Listed))) (e : Entry) (past : List Entry) → IsPlayed plan past →
    IsNext plan e.actor (count_of e.actor past) e.line (step_in e.what) past → IsPlayed plan (e ∷ past)
