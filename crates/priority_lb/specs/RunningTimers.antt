-- When the timers of children end, and whether they go on running (gRFC A56).
use Rattle.std.specs.Prelude.{ℕ, Bool, true, false, not, if◌then◌else◌, ◌+◌, ◌-◌, ◌^◌, ◌&&◌, ◌||◌, min, List, [], ◌∷◌}
use Rattle.std.specs.Option.{option_map_or}
use Rattle.std.specs.List.{list_all}
use Rattle.xc_base.specs.declared.names.Time.{Time}
use Rattle.priority_lb.specs.declared.facts.ChildFacts.{ChildFacts}
use Rattle.priority_lb.specs.Step.{is_within}

-- neither its failover timer, where it runs, has ended at a time, nor its deactivation timer
abbrev pub runs_on : Time → ChildFacts → Bool
runs_on now child =
    (not child.pending || option_map_or (λ since. is_within 10000 now since) child.connecting_since false) &&
    (not child.there || option_map_or (λ since. is_within 900000 now since) child.unused_since true)

-- no timer of these children has ended at a time
abbrev pub run_on : Time → List ChildFacts → Bool
run_on now children = list_all (runs_on now) children

-- the last of all times, at which a timer that doesn't run may be said to end
abbrev pub never : ℕ
never = 2 ^ 64 - 1

-- when a timer of so many milliseconds ends that began then
abbrev pub end_of : ℕ → Time → ℕ
end_of limit since = min (since.0 + limit) never

abbrev pub failover_end : ChildFacts → ℕ
failover_end child = if child.pending then option_map_or (end_of 10000) child.connecting_since 0 else never

abbrev pub deactivation_end : ChildFacts → ℕ
deactivation_end child = if child.there then option_map_or (end_of 900000) child.unused_since never else never

-- when the first of a child's timers ends
abbrev pub child_end : ChildFacts → ℕ
child_end child = min (failover_end child) (deactivation_end child)

-- when the first timer of these children ends
abbrev pub first_end : List ChildFacts → ℕ
first_end [] = never
first_end (child ∷ children) = min (child_end child) (first_end children)
