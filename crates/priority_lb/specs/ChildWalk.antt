-- The walk over the children of a priority balancer (gRFC A56): in their order, each with those before it.
use Rattle.std.specs.Prelude.{ℕ, ◌-◌, Bool, true, false, not, ◌&&◌, ◌||◌, List, [], ◌∷◌, ◌++◌, length, unwrap_or}
use Rattle.std.specs.List.{list_all, list_any, position_from}
use Rattle.xc_base.specs.declared.names.State.{State}
use Rattle.xc_base.specs.declared.names.State.TheVariants.{Connecting, Ready, Failing}

abbrev pub is_ready : State → Bool
is_ready Ready = true
is_ready Connecting = false
is_ready Failing = false

abbrev pub is_connecting : State → Bool
is_connecting Connecting = true
is_connecting Ready = false
is_connecting Failing = false

-- each element is made of the list's element at its place, and of those made before it
abbrev pub in_order : {A B : Type 0} → (List B → A → B) → List B → List A → List B
in_order f before [] = []
in_order f before (x ∷ xs) = f before x ∷ in_order f (before ++ f before x ∷ []) xs

-- a child as the walk sees it: whether it reached the child, the child's state, and whether its failover timer runs
pub record Seen : Type 0 where
  pub reached : Bool
  pub state : State
  pub pending : Bool

-- the walk stops at a child that is READY or pending
abbrev pub stops : Seen → Bool
stops child = is_ready child.state || child.pending

-- the walk goes on behind a child that it reached
abbrev pub is_passed : Seen → Bool
is_passed child = child.reached && not (stops child)

-- a child is reached where each child before it is reached and neither READY nor pending
abbrev pub is_reached : List Seen → Bool
is_reached before = list_all is_passed before

-- a child that is reached and READY is the chosen one
abbrev pub is_chosen_ready : Seen → Bool
is_chosen_ready child = child.reached && is_ready child.state

-- a child before this one is chosen and READY
abbrev pub is_behind_ready : List Seen → Bool
is_behind_ready before = list_any is_chosen_ready before

-- the place of the chosen child: the least reached one that is READY or pending; else the least that is CONNECTING; else the last
abbrev pub chosen : List Seen → ℕ
chosen children =
    unwrap_or (position_from (λ c. c.reached && stops c) 0 children)
    (unwrap_or (position_from (λ c. is_connecting c.state) 0 children) (length children - 1))
