-- The plan of a channel, and what is listed next for a lane (this project's own).
use Rattle.std.specs.Prelude.{◌≡◌, ◌<◌, ◌≤◌, ℕ, List, length, Option, Some, None}
use Rattle.xc_base.specs.declared.call.Call.{Call}
use Rattle.call_journal.specs.declared.plan.Count.{Count}
use Rattle.call_journal.specs.declared.plan.Listed.{Listed}
use Rattle.call_journal.specs.declared.plan.ListedEvent.{ListedEvent}
use Rattle.book_progress.specs.PlayedPlans.{IsListed}
use Rattle.lane_checks.specs.book_hearing.HeardEvents.{IsShortIn}
use Rattle.planned_calls.specs.PlannedCalls.{StartsOnce, plan_entries}
use Rattle.lane_checks.specs.xds_book.BookEntries.{IsKnownTo}
use Rattle.lane_checks.specs.xds_book.BookViews.{LaneView}

-- ---- the plan

-- where an event is one of the driver, a Book with so many authorities takes it
abbrev pub IsDrivable : ℕ → ListedEvent → Type 0
IsDrivable authorities (ListedEvent.Driver event) = IsKnownTo authorities event × IsShortIn event
IsDrivable authorities _ = Unit {0}

-- a plan that a channel plays, with so many authorities and room for so many entries
pub record IsChannelPlan (plan : List (List Listed)) (authorities room : ℕ) : Type 0 where
  pub entries : plan_entries plan ≤ room
  pub starts : StartsOnce plan
  pub events : (actor : ℕ) (count : Count) (listed : Listed) → IsListed plan actor count listed → IsDrivable authorities listed.event

-- there is a plan, and it is such a one
abbrev pub HasChannelPlan : Option (List (List Listed)) → ℕ → ℕ → Type 0
HasChannelPlan None authorities room = ⊥
HasChannelPlan (Some plan) authorities room = IsChannelPlan plan authorities room

-- ---- the next listed event

-- A line, the line that gates it and an event are the next listed ones of a lane's actor, by the lane's count, which has so
-- many pins up.
pub record IsNextFor (plan : List (List Listed)) (lane : LaneView) (pins line : ℕ) (after : Option ℕ) (event : ListedEvent) : Type 0 where
  pub listed : IsListed plan lane.actor lane.count (record { line = line; after = after; event = event })
  pub pins_are : lane.count.pins ≡ pins

abbrev pub HasListed : Option (List (List Listed)) → LaneView → ℕ → ℕ → Option ℕ → ListedEvent → Type 0
HasListed None lane pins line after event = ⊥
HasListed (Some plan) lane pins line after event = IsNextFor plan lane pins line after event

-- there is a plan, in which these come next, and no pin is up
abbrev pub HasNext : Option (List (List Listed)) → LaneView → ℕ → Option ℕ → ListedEvent → Type 0
HasNext plan lane line after event = HasListed plan lane 0 line after event

-- the same of a call that is started, whose pin is up
abbrev pub HasUp : Option (List (List Listed)) → LaneView → ℕ → Option ℕ → Call → Type 0
HasUp plan lane line after call = HasListed plan lane 1 line after (ListedEvent.Start call)

-- there is a plan, in which this actor has a list
abbrev pub HasActor : Option (List (List Listed)) → ℕ → Type 0
HasActor None actor = ⊥
HasActor (Some plan) actor = actor < length plan
