-- Trees by all their updates (gRFC A56, A74): what is kept of a tree follows its history.
use Rattle.std.specs.Prelude.{◌≡◌, List, [], ◌∷◌, map, if◌then◌else◌, Option, Some, None, option_map}
use Rattle.std.specs.List.{zip}
use Rattle.xc_base.specs.declared.names.Time.{Time}
use Rattle.xds_config.specs.declared.config.Leaves.{Leaves}
use Rattle.priority_lb.specs.ChildWalk.{chosen}
use Rattle.priority_lb.specs.ChildHistories.{Update}
use Rattle.priority_lb.specs.ChildLaws.{all_facts, seen_now}
use Rattle.graceful_switch.specs.Takeover.{Pair, settled}
use Rattle.tree_steps.specs.Reports.{Reports, names_of, states_in}
use Rattle.tree_steps.specs.TreeSteps.{TreeFacts, state_of, is_same, trees_after}

-- one update of a tree: the leaves that it follows, what addresses reported, and the time
pub record Followed : Type 0 where
  pub now : Time
  pub reports : Reports
  pub leaves : Leaves

-- the updates of a tree since it was new: the last one, and those before it with the newest first
pub record TreeHistory : Type 0 where
  pub last : Followed
  pub past : List Followed

-- what the update says of the tree's children
abbrev pub update_of : Followed → Update
update_of f = record { children = zip (names_of f.leaves.leaves) (states_in f.reports f.leaves.leaves); now = f.now }

abbrev pub updates_of : TreeHistory → List Update
updates_of h = map update_of (h.last ∷ h.past)

-- what is kept of a tree with this history, in the words of its children's histories
abbrev pub facts_of : TreeHistory → TreeFacts
facts_of h = record { leaves = h.last.leaves; children = all_facts (updates_of h); chosen = chosen (seen_now (updates_of h)) }

abbrev pub past_of : Option TreeHistory → List Followed
past_of None = []
past_of (Some h) = h.last ∷ h.past

-- the tree takes one more update; none before is a new one
abbrev pub follows : Time → Reports → Leaves → Option TreeHistory → TreeHistory
follows now reports leaves tree = record { last = record { now = now; reports = reports; leaves = leaves }; past = past_of tree }

-- the trees of a cluster after an update, by their histories
abbrev pub histories_after : Time → Reports → Leaves → Option (Pair TreeHistory) → Pair TreeHistory
histories_after now reports leaves None = record { serving = follows now reports leaves None; waiting = None }
histories_after now reports leaves (Some trees) =
    if is_same trees.serving.last.leaves.aggregate leaves.aggregate then record { serving = follows now reports leaves (Some trees.serving); waiting = None }
    else settled (λ h. state_of (facts_of h)) (follows now reports trees.serving.last.leaves (Some trees.serving)) (Some (follows now reports leaves trees.waiting))

abbrev pub pair_facts : Pair TreeHistory → Pair TreeFacts
pair_facts trees = record { serving = facts_of trees.serving; waiting = option_map facts_of trees.waiting }

-- one step on what is kept of a cluster's trees gives what is kept of their histories with one update more
abbrev pub TreesFollowHistory : Type 0
TreesFollowHistory = (now : Time) (reports : Reports) (leaves : Leaves) (old : Option (Pair TreeHistory)) →
    pair_facts (histories_after now reports leaves old) ≡ trees_after now reports leaves (option_map pair_facts old)
