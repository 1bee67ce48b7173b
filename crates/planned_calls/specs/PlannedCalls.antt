-- The calls that a plan starts, and how many entries a plan makes (this project's own). Histories have the newest entry
-- first.
use Rattle.std.specs.Prelude.{◌≡◌, ◌≢◌, ◌<◌, ℕ, List, length, Some, None, slice_get}
use Rattle.std.specs.List.{sum_by}
use Rattle.xc_base.specs.declared.call.Call.{Call}
use Rattle.xc_base.specs.declared.names.CallId.{CallId}
use Rattle.call_journal.specs.declared.event.CallerEvent.{CallerEvent}
use Rattle.call_journal.specs.declared.entry.Entry.{Entry}
use Rattle.call_journal.specs.declared.plan.Listed.{Listed}
use Rattle.call_journal.specs.declared.plan.ListedEvent.{ListedEvent}
use Rattle.xds_history.specs.Setting.{Setting}
use Rattle.xds_history.specs.References.{held, pinned}
use Rattle.xds_history.specs.Pages.{pages}
use Rattle.book_progress.specs.ActorCounts.{count_of}
use Rattle.book_progress.specs.PlayedPlans.{IsNextOf, IsPlanPlayed, Step}
use Rattle.book_progress.specs.PlayedPlans as played

-- ---- the entries of a plan

-- an event makes one entry, and a start two at most: a pin and a hold
abbrev pub event_entries : ListedEvent → ℕ
event_entries (ListedEvent.Start call) = 2
event_entries _ = 1

abbrev pub list_entries : List Listed → ℕ
list_entries list = sum_by (λ l. event_entries l.event) list

-- the most entries that the actors make who play a plan
abbrev pub plan_entries : List (List Listed) → ℕ
plan_entries plan = sum_by list_entries plan

-- ---- the calls that it starts

-- an event starts the call of this number
abbrev pub IsStartOf : ℕ → ListedEvent → Type 0
IsStartOf number (ListedEvent.Start call) = call.id.0 ≡ number
IsStartOf number _ = ⊥

-- at this place of an actor's list a plan starts the call of this number
pub record IsStartAt (plan : List (List Listed)) (number actor place : ℕ) : Type 0 where
  pub list : List Listed
  pub actor_is : slice_get plan actor ≡ Some list
  pub listed : Listed
  pub place_is : slice_get list place ≡ Some listed
  pub start : IsStartOf number listed.event

-- each call is started at most once
abbrev pub StartsOnce : List (List Listed) → Type 0
StartsOnce plan = (number a b i j : ℕ) → IsStartAt plan number a i → IsStartAt plan number b j → (a ≡ b) × (i ≡ j)

-- ---- laws

-- a call has no pin and holds nothing
pub record IsNewCall (s : Setting) (history : List Entry) (id : CallId) : Type 0 where
  pub free : pinned (pages s history) id ≡ None
  pub idle : held (pages s history) id ≡ None

abbrev pub NextStartIsNew : Type 0
NextStartIsNew = (s : Setting) (plan : List (List Listed)) (history : List Entry) (actor line : ℕ) (call : Call) → IsPlanPlayed plan history → StartsOnce plan
    → IsNextOf plan actor (count_of actor history) line (played.caller (CallerEvent.Pin call)) history → IsNewCall s history call.id

abbrev pub NextHoldIsUp : Type 0
NextHoldIsUp = (s : Setting) (plan : List (List Listed)) (history : List Entry) (actor line : ℕ) (call : Call) → IsPlanPlayed plan history → StartsOnce plan
    → IsNextOf plan actor (count_of actor history) line (played.caller (CallerEvent.Hold call)) history → pinned (pages s history) call.id ≢ None

abbrev pub NextHasRoom : Type 0
NextHasRoom = (plan : List (List Listed)) (history : List Entry) (actor line : ℕ) (step : Step) → IsPlanPlayed plan history
    → IsNextOf plan actor (count_of actor history) line step history → length history < plan_entries plan
