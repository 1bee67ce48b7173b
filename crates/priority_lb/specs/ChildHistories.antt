-- The children of a priority balancer over all its updates (gRFC A56). A list of updates has the newest first, so
-- what was up to an update is a tail of it.
use Rattle.std.specs.Prelude.{ℕ, ◌==◌, Bool, true, false, not, ◌&&◌, ◌||◌, if◌then◌else◌, List, [], ◌∷◌, map, Option, Some, None, option_map, get_or}
use Rattle.std.specs.Option.{option_map_or, option_or}
use Rattle.std.specs.List.{list_any, position_from}
use Rattle.std.specs.Cmp.Lexicographic.{pointwise}
use Rattle.xc_base.specs.declared.names.State.{State}
use Rattle.xc_base.specs.declared.names.State.TheVariants.{Connecting}
use Rattle.xc_base.specs.declared.names.Time.{Time}
use Rattle.priority_lb.specs.declared.facts.ChildFacts.{ChildFacts}
use Rattle.priority_lb.specs.ChildWalk.{Seen, is_ready, is_connecting, in_order, is_reached, is_behind_ready}
use Rattle.priority_lb.specs.Step.{is_within}

-- a child's name: a leaf and a priority in it
abbrev pub Name : Type 0
Name = List ℕ × ℕ

abbrev pub same_name : Name → Name → Bool
same_name a b = pointwise (λ x y. x == y) a.0 b.0 && (a.1 == b.1)

-- an update: the children that the balancer names, with their states, and its time
pub record Update : Type 0 where
  pub children : List (Name × State)
  pub now : Time

-- a child at one update
pub record Mark : Type 0 where
  pub now : Time
  pub state : State
  -- each child before it is reached and neither READY nor pending
  pub reached : Bool
  -- a child before it is chosen and READY
  pub behind : Bool

-- a child's trail: its marks at the updates from which to now it has been named, the newest first
abbrev pub Trail : Type 0
Trail = List Mark

abbrev pub now_of : Trail → Time
now_of [] = record { 0 = 0 }
now_of (mark ∷ trail) = mark.now

abbrev pub state_of : Trail → State
state_of [] = Connecting
state_of (mark ∷ trail) = mark.state

-- what comes before the newest
abbrev pub before : {X : Type 0} → List X → List X
before [] = []
before (x ∷ xs) = xs

-- the first in time that passes, which is the last one of a list with the newest first
abbrev pub first_of : {X : Type 0} → (X → Bool) → List X → Option X
first_of passes [] = None
first_of passes (x ∷ xs) = option_or (first_of passes xs) (if passes x then Some x else None)

-- some update up to now has reached the child
abbrev pub ever_reached : Trail → Bool
ever_reached trail = list_any (λ mark. mark.reached) trail

-- the updates after the last one that reached the child, up to now
abbrev pub after_reached : Trail → Trail
after_reached [] = []
after_reached (mark ∷ trail) = if mark.reached then [] else mark ∷ after_reached trail

-- the first update after the last one that reached the child at which a child before it is chosen and READY
abbrev pub unused_from : Trail → Option Mark
unused_from trail = if ever_reached trail then first_of (λ mark. mark.behind) (after_reached trail) else None

-- the child is there: it has been reached, and less than 900,000 ms have passed since it went out of use, if it did
abbrev pub is_there : Trail → Bool
is_there trail = ever_reached trail && option_map_or (λ mark. is_within 900000 (now_of trail) mark.now) (unused_from trail) true

-- the unbroken run, up to now, of updates at which the child is there and CONNECTING, each with what was up to it
abbrev pub connecting_run : Trail → List Trail
connecting_run [] = []
connecting_run (mark ∷ trail) = if is_there (mark ∷ trail) && is_connecting mark.state then (mark ∷ trail) ∷ connecting_run trail else []

-- the first update of that run
abbrev pub connecting_from : Trail → Option Trail
connecting_from trail = first_of (λ up_to. true) (connecting_run trail)

-- the child wasn't there, or was READY
abbrev pub is_away_or_ready : Trail → Bool
is_away_or_ready trail = not (is_there trail) || is_ready (state_of trail)

-- the child is pending: less than 10,000 ms have passed since that first update, and at the update before it the
-- child wasn't there or was READY
abbrev pub is_pending_at : Trail → Bool
is_pending_at trail = option_map_or (λ first. is_away_or_ready (before first) && is_within 10000 (now_of trail) (now_of first)) (connecting_from trail) false

-- what is kept of a child with this trail
abbrev pub facts : Trail → ChildFacts
facts trail = record {
  there = is_there trail;
  state = state_of trail;
  pending = is_pending_at trail;
  connecting_since = option_map (λ first. now_of first) (connecting_from trail);
  timed = option_map_or (λ first. is_away_or_ready (before first)) (connecting_from trail) false;
  unused_since = option_map (λ mark. mark.now) (unused_from trail);
}

abbrev pub reached_of : Trail → Bool
reached_of [] = false
reached_of (mark ∷ trail) = mark.reached

abbrev pub behind_of : Trail → Bool
behind_of [] = false
behind_of (mark ∷ trail) = mark.behind

abbrev pub seen_at : Trail → Seen
seen_at trail = record { reached = reached_of trail; state = state_of trail; pending = is_pending_at trail }

-- the names of the children of the newest update
abbrev pub names_of : List Update → List Name
names_of [] = []
names_of (update ∷ past) = map (λ child. child.0) update.children

-- the trail of the child with this name: empty where it wasn't named
abbrev pub trail_of : Name → List Name → List Trail → Trail
trail_of name names trails = option_map_or (λ p. get_or trails p []) (position_from (same_name name) 0 names) []

-- a child's trail goes on, after those of the children before it
abbrev pub next_trail : Time → List Trail → Trail × State → Trail
next_trail now earlier child =
    record { now = now; state = child.1; reached = is_reached (map seen_at earlier); behind = is_behind_ready (map seen_at earlier) } ∷ child.0

-- the trails of the children of the newest update, child by child in their order
abbrev pub trails : List Update → List Trail
trails [] = []
trails (update ∷ past) = in_order (next_trail update.now) [] (map (λ child. (trail_of child.0 (names_of past) (trails past), child.1)) update.children)
