-- Ends of timers, and the places whose timers have ended.
use Rattle.std.specs.Prelude.{◌≤◌, ◌⊎◌, ℕ, IsTrue}
use Rattle.std.specs.declared.cmp.Ordering.{Ordering}
use Rattle.std.specs.Ordering.{nat_cmp, on, then_cmp}
use Rattle.std.specs.BTreeSet.{BTreeSet, contains}
use Rattle.xc_base.specs.declared.names.Time.{Time}
use Rattle.tree_timers.specs.declared.timer_ends.TimerEnd.{TimerEnd}

-- by the time, then by the place
abbrev pub end_cmp : TimerEnd → TimerEnd → Ordering
end_cmp = then_cmp (on (λ end. end.at.0) nat_cmp) (on (λ end. end.place) nat_cmp)

-- the ends that are kept
abbrev pub Ends : Type 0
Ends = BTreeSet TimerEnd

-- an end is one of them
abbrev pub HasEnd : Ends → TimerEnd → Type 0
HasEnd ends end = IsTrue (contains end_cmp ends end)

-- a place is in the set
abbrev pub HasPlace : BTreeSet ℕ → ℕ → Type 0
HasPlace places place = IsTrue (contains nat_cmp places place)

-- the timer has ended by then
abbrev pub IsDue : Time → TimerEnd → Type 0
IsDue now end = end.at.0 ≤ now.0

-- each end that was there is left, or it has come and its place is in the set
abbrev pub EachLeftOrTaken : Ends → Ends → BTreeSet ℕ → Time → Type 0
EachLeftOrTaken old left places now = (end : TimerEnd) → HasEnd old end → HasEnd left end ⊎ (IsDue now end × HasPlace places end.place)

-- a place that was there stays
abbrev pub KeepsPlaces : BTreeSet ℕ → BTreeSet ℕ → Type 0
KeepsPlaces old new = (place : ℕ) → HasPlace old place → HasPlace new place
