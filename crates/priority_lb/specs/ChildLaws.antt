-- The steps of a list of updates give what its history says, whatever the times, states and names.
use Rattle.std.specs.Prelude.{◌≡◌, ◌<◌, ◌↔◌, ℕ, IsTrue, IsFalse, List, [], ◌∷◌, map, length, get_or, take, Option}
use Rattle.std.specs.List.{position_from, AllPairs}
use Rattle.xc_base.specs.declared.names.State.{State}
use Rattle.xc_base.specs.declared.names.State.TheVariants.{Connecting}
use Rattle.xc_base.specs.declared.names.Time.{Time}
use Rattle.priority_lb.specs.declared.facts.ChildFacts.{ChildFacts}
use Rattle.priority_lb.specs.ChildWalk.{Seen, chosen, is_ready}
use Rattle.priority_lb.specs.Step.{Walked, walked, walk, step, seen, carried, fresh}
use Rattle.priority_lb.specs.ChildHistories.{Update, Name, same_name, names_of, Trail, trails, trail_of, facts, seen_at, reached_of, behind_of}

-- the old places of the names
abbrev pub places : List Name → List Name → List (Option ℕ)
places names old = map (λ name. position_from (same_name name) 0 old) names

-- what is kept after a list of updates, by its history
abbrev pub all_facts : List Update → List ChildFacts
all_facts past = map facts (trails past)

-- what an update begins with: the facts of the children that it names
abbrev pub start : Update → List Update → List ChildFacts
start update past = carried (places (map (λ child. child.0) update.children) (names_of past)) (all_facts past)

-- the children of the newest update, as its walk sees them
abbrev pub seen_now : List Update → List Seen
seen_now past = map seen_at (trails past)

-- one step on the facts of a history gives the facts and the choice of the history with one update more
abbrev pub OneStep : Type 0
OneStep = (update : Update) (past : List Update) →
    (step update.now (start update past) (map (λ child. child.1) update.children) ≡ all_facts (update ∷ past)) ×
    (chosen (map seen (walk update.now (start update past) (map (λ child. child.1) update.children))) ≡ chosen (seen_now (update ∷ past)))

-- what is kept after a list of updates, step by step from no children
abbrev pub played : List Update → List ChildFacts
played [] = []
played (update ∷ past) = step update.now (carried (places (map (λ child. child.0) update.children) (names_of past)) (played past)) (map (λ child. child.1) update.children)

abbrev pub ManySteps : Type 0
ManySteps = (past : List Update) → played past ≡ all_facts past

-- reached, and neither READY nor pending
abbrev pub IsPassed : Seen → Type 0
IsPassed child = IsTrue child.reached × IsFalse (is_ready child.state) × IsFalse child.pending

abbrev pub child_at : Update → ℕ → Name × State
child_at update place = get_or update.children place (([], 0), Connecting)

abbrev pub trail_at : List Update → ℕ → Trail
trail_at past place = get_or (trails past) place []

abbrev pub seen_in : List Update → ℕ → Seen
seen_in past place = seen_at (trail_at past place)

-- what the history says of the child at a place of the newest update
pub record IsReadAt (update : Update) (past : List Update) (place : ℕ) : Type 0 where
  -- its trail goes on from the one of its name
  pub trail : trail_at (update ∷ past) place ≡ record { now = update.now; state = (child_at update place).1; reached = reached_of (trail_at (update ∷ past) place); behind = behind_of (trail_at (update ∷ past) place) } ∷ trail_of (child_at update place).0 (names_of past) (trails past)
  -- it is reached where each child before it is reached and neither READY nor pending
  pub reached : IsTrue (reached_of (trail_at (update ∷ past) place)) ↔ ((k : ℕ) → k < place → IsPassed (seen_in (update ∷ past) k))
  -- it is behind where a child before it is chosen and READY
  pub behind : IsTrue (behind_of (trail_at (update ∷ past) place)) ↔ ((chosen (seen_now (update ∷ past)) < place) × IsTrue (is_ready (seen_in (update ∷ past) (chosen (seen_now (update ∷ past)))).state))

abbrev pub ChildByChild : Type 0
ChildByChild = (update : Update) (past : List Update) (place : ℕ) → place < length update.children → IsReadAt update past place

-- no name stands twice
abbrev pub IsEachOnce : List Name → Type 0
IsEachOnce names = AllPairs (λ a b. IsFalse (same_name b a)) names

-- where the names stay, nothing has to be carried
abbrev pub SameNames : Type 0
SameNames = (names : List Name) (children : List ChildFacts) → IsEachOnce names → length children ≡ length names → carried (places names names) children ≡ children

-- an update place by place: a child is what its own facts, its state and the children before it make of it
abbrev pub PlaceByPlace : Type 0
PlaceByPlace = (now : Time) (children : List ChildFacts) (states : List State) (place : ℕ) (default : Walked) → length states ≡ length children → place < length children →
    get_or (walk now children states) place default ≡ walked now (take place (walk now children states)) (get_or children place fresh, get_or states place Connecting)
