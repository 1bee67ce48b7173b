-- One update of the children of a priority balancer, as a step on what is kept of each (gRFC A56: the failover
-- timer and the deactivation timer, with this project's own times).
use Rattle.std.specs.Prelude.{ℕ, ◌-◌, Bool, true, false, not, ◌&&◌, ◌||◌, if◌then◌else◌, nat_lt, List, [], map, Option, Some, None, is_some, unwrap_or, get_or}
use Rattle.std.specs.Option.{option_map_or, option_or}
use Rattle.std.specs.List.{zip}
use Rattle.xc_base.specs.declared.names.State.{State}
use Rattle.xc_base.specs.declared.names.State.TheVariants.{Connecting}
use Rattle.xc_base.specs.declared.names.Time.{Time}
use Rattle.priority_lb.specs.declared.facts.ChildFacts.{ChildFacts}
use Rattle.priority_lb.specs.declared.view.ChildView.{ChildView}
use Rattle.priority_lb.specs.ChildWalk.{Seen, is_ready, is_connecting, in_order, is_reached, is_behind_ready}

-- a child that no update has seen
abbrev pub fresh : ChildFacts
fresh = record { there = false; state = Connecting; pending = false; connecting_since = None; timed = false; unused_since = None }

-- fewer milliseconds than the limit have passed since then
abbrev pub is_within : ℕ → Time → Time → Bool
is_within limit now since = nat_lt (now.0 - since.0) limit

-- the walk has reached the child since the list names it
abbrev pub was_reached : ChildFacts → Bool
was_reached child = child.there || is_some child.unused_since

-- since when a READY child before it is chosen: never where the walk reaches it, else since the first time after it did
abbrev pub unused_after : Bool → Bool → Time → ChildFacts → Option Time
unused_after reached behind now child =
    if reached then None
    else if was_reached child then option_or child.unused_since (if behind then Some now else None)
    else None

-- once reached it is there, until it is out of use for 900,000 ms
abbrev pub there_after : Bool → Time → ChildFacts → Option Time → Bool
there_after reached now child unused = (reached || was_reached child) && option_map_or (λ since. is_within 900000 now since) unused true

abbrev pub connecting_after : Bool → Time → State → ChildFacts → Option Time
connecting_after there now state child = if there && is_connecting state then Some (unwrap_or child.connecting_since now) else None

-- the failover timer starts where the child is created CONNECTING or goes from READY to CONNECTING
abbrev pub timed_after : Bool → State → ChildFacts → Bool
timed_after there state child =
    if there && is_connecting state then (if is_some child.connecting_since then child.timed else not child.there || is_ready child.state)
    else false

-- the failover timer runs for 10,000 ms
abbrev pub is_pending : Bool → Time → Option Time → Bool
is_pending timed now since = timed && option_map_or (λ since. is_within 10000 now since) since false

-- a child that is there or not, and out of use since then or not, in this state
abbrev pub with_there : Bool → Option Time → Time → State → ChildFacts → ChildFacts
with_there there unused now state child = record {
  there = there;
  state = state;
  pending = is_pending (timed_after there state child) now (connecting_after there now state child);
  connecting_since = connecting_after there now state child;
  timed = timed_after there state child;
  unused_since = unused;
}

-- a child after an update
abbrev pub facts_after : Bool → Bool → Time → State → ChildFacts → ChildFacts
facts_after reached behind now state child =
    with_there (there_after reached now child (unused_after reached behind now child)) (unused_after reached behind now child) now state child

-- a child after an update, and whether the walk reached it
pub record Walked : Type 0 where
  pub reached : Bool
  pub facts : ChildFacts

abbrev pub seen : Walked → Seen
seen child = record { reached = child.reached; state = child.facts.state; pending = child.facts.pending }

abbrev pub walked : Time → List Walked → ChildFacts × State → Walked
walked now before child = record {
  reached = is_reached (map seen before);
  facts = facts_after (is_reached (map seen before)) (is_behind_ready (map seen before)) now child.1 child.0;
}

-- the walk of an update over the children and their states
abbrev pub walk : Time → List ChildFacts → List State → List Walked
walk now children states = in_order (walked now) [] (zip children states)

-- what is kept of the children after an update
abbrev pub step : Time → List ChildFacts → List State → List ChildFacts
step now children states = map (λ child. child.facts) (walk now children states)

-- the children of a new list, each from its old place or new
abbrev pub carried : List (Option ℕ) → List ChildFacts → List ChildFacts
carried from children = map (λ place. option_map_or (λ p. get_or children p fresh) place fresh) from

-- what is seen of a child
abbrev pub view_of : ChildFacts → ChildView
view_of child = record { there = child.there; state = child.state; pending = child.pending; unused = child.there && is_some child.unused_since }
