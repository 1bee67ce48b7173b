-- Lists of updates of a cluster's trees, each computed: what the definitions say is seen after each of them.
-- Written by hand after gRFC A56 (failover, deactivation), A37 (aggregates) and this project's graceful switch.
use Rattle.std.specs.Prelude.{◌≡◌, refl, codes, ℕ, Bool, true, false, List, [], ◌∷◌, ◌++◌, map, Option, Some, None, Result, Ok, Err}
use Rattle.xc_base.specs.declared.names.State.{State}
use Rattle.xc_base.specs.declared.names.State.TheVariants.{Connecting, Ready, Failing}
use Rattle.xc_base.specs.declared.names.Time.{Time}
use Rattle.xc_base.specs.declared.reason.Reason.{Reason}
use Rattle.xc_base.specs.declared.reason.Reason.TheVariants as reason
use Rattle.xds_config.specs.declared.config.Leaf.{Leaf}
use Rattle.xds_config.specs.declared.config.Leaves.{Leaves}
use Rattle.xds_config.specs.declared.endpoint_values.Locality.{Locality}
use Rattle.graceful_switch.specs.Takeover.{Pair}
use Rattle.weighted_lb.specs.declared.picker.PickBody.{PickBody}
use Rattle.weighted_lb.specs.declared.picker.PickBody.TheVariants as body
use Rattle.tree_steps.specs.declared.tree_view.NamedChild.{NamedChild}
use Rattle.tree_steps.specs.declared.tree_view.TreeView.{TreeView}
use Rattle.tree_steps.specs.Reports.{Reports}
use Rattle.tree_steps.specs.TreeSteps.{TreeFacts, trees_after, trees_view}

-- ---- how a list of updates is written

-- at this time addresses report states, and the trees take these leaves
record Update : Type 0 where
  pub now : ℕ
  pub said : Reports
  pub leaves : Leaves

abbrev update : ℕ → Reports → Leaves → Update
update now said leaves = record { now = now; said = said; leaves = leaves }

-- what is seen: the children, the place of the chosen one, the children of a tree that waits, and the addresses that
-- picks go to by their locality, or why there are none
record Shown : Type 0 where
  pub chosen : ℕ
  pub children : List NamedChild
  pub waiting : Option (List NamedChild)
  pub picks : Result (List (List (List ℕ))) (Option Reason)

abbrev picks_of : PickBody → Result (List (List (List ℕ))) (Option Reason)
picks_of (body.Ready parts sums) = Ok (map (λ part. part.ready) parts)
picks_of body.Queue = Err None
picks_of (body.Fail reason) = Err (Some reason)

abbrev shown : TreeView → Shown
shown view = record { chosen = view.chosen; children = view.children; waiting = view.waiting; picks = picks_of view.picker.body }

abbrev at : ℕ → Time
at now = record { 0 = now }

abbrev play : Reports → Pair TreeFacts → List Update → List Shown
play reports trees [] = shown (trees_view reports trees) ∷ []
play reports trees (u ∷ us) = shown (trees_view reports trees) ∷ play (u.said ++ reports) (trees_after (at u.now) (u.said ++ reports) u.leaves (Some trees)) us

-- what is seen after each update, from no trees
abbrev played : List Update → List Shown
played [] = []
played (u ∷ us) = play u.said (trees_after (at u.now) u.said u.leaves None) us

abbrev alone : ℕ → List NamedChild → Result (List (List (List ℕ))) (Option Reason) → Shown
alone chosen children picks = record { chosen = chosen; children = children; waiting = None; picks = picks }

abbrev beside : ℕ → List NamedChild → List NamedChild → Result (List (List (List ℕ))) (Option Reason) → Shown
beside chosen children waiting picks = record { chosen = chosen; children = children; waiting = Some waiting; picks = picks }

abbrev child : List ℕ → ℕ → Bool → State → Bool → Bool → NamedChild
child leaf priority there state pending unused = record { leaf = leaf; priority = priority; view = record { there = there; state = state; pending = pending; unused = unused } }

-- a child that exists, whose failover timer doesn't run
abbrev here : List ℕ → ℕ → State → NamedChild
here leaf priority state = child leaf priority true state false false

-- one that is CONNECTING while its failover timer runs
abbrev pending : List ℕ → ℕ → NamedChild
pending leaf priority = child leaf priority true Connecting true false

-- one that is out of use
abbrev unused : List ℕ → ℕ → State → NamedChild
unused leaf priority state = child leaf priority true state false true

-- one that doesn't exist
abbrev away : List ℕ → ℕ → State → NamedChild
away leaf priority state = child leaf priority false state false false

abbrev queued : Result (List (List (List ℕ))) (Option Reason)
queued = Err None

abbrev picked : List ℕ → Result (List (List (List ℕ))) (Option Reason)
picked address = Ok ((address ∷ []) ∷ [])

-- ---- what is configured

abbrev a1 : List ℕ
a1 = codes "10.0.0.1:80"

abbrev a2 : List ℕ
a2 = codes "10.0.0.2:80"

abbrev a9 : List ℕ
a9 = codes "10.0.0.9:80"

abbrev locality : ℕ → List ℕ → Locality
locality priority address = record { id = record { region = []; zone = []; sub_zone = [] }; priority = priority; weight = 1; addresses = address ∷ [] }

abbrev leaf : List ℕ → List Locality → Leaf
leaf name localities = record { name = name; state = Ok (record { name = name; localities = localities; drops = [] }) }

abbrev of_one : List ℕ → List Locality → Leaves
of_one name localities = record { aggregate = false; leaves = leaf name localities ∷ [] }

abbrev aggregate : List Leaf → Leaves
aggregate leaves = record { aggregate = true; leaves = leaves }

abbrev web : List ℕ
web = codes "web"

abbrev g : List ℕ
g = codes "g"

abbrev h : List ℕ
h = codes "h"

abbrev two_priorities : List ℕ → Leaves
two_priorities name = of_one name (locality 0 a1 ∷ locality 1 a2 ∷ [])

abbrev plain : Leaves
plain = of_one g (locality 0 a1 ∷ [])

abbrev other_kind : Leaves
other_kind = aggregate (leaf h (locality 0 a2 ∷ []) ∷ [])

-- ---- the rows

-- the second priority takes over while the first one fails, without a timer when that one connects again, and is dropped
-- 900,000 ms after the first one is back
row_failover :
    played (
    update 0 [] (two_priorities web) ∷
    update 0 ((a1, Failing) ∷ []) (two_priorities web) ∷
    update 0 ((a2, Ready) ∷ []) (two_priorities web) ∷
    update 0 ((a1, Connecting) ∷ []) (two_priorities web) ∷
    update 0 ((a1, Ready) ∷ []) (two_priorities web) ∷
    update 899999 [] (two_priorities web) ∷
    update 900000 [] (two_priorities web) ∷
    []
    ) ≡
    (
    alone 0 (pending web 0 ∷ away web 1 Connecting ∷ []) queued ∷
    alone 1 (here web 0 Failing ∷ pending web 1 ∷ []) queued ∷
    alone 1 (here web 0 Failing ∷ here web 1 Ready ∷ []) (picked a2) ∷
    alone 1 (here web 0 Connecting ∷ here web 1 Ready ∷ []) (picked a2) ∷
    alone 0 (here web 0 Ready ∷ unused web 1 Ready ∷ []) (picked a1) ∷
    alone 0 (here web 0 Ready ∷ unused web 1 Ready ∷ []) (picked a1) ∷
    alone 0 (here web 0 Ready ∷ away web 1 Ready ∷ []) (picked a1) ∷
    []
    )
row_failover = refl

-- a priority out of use that goes from READY to CONNECTING has a failover timer too, which ends after 10,000 ms
row_unused :
    played (
    update 0 [] (two_priorities web) ∷
    update 0 ((a1, Failing) ∷ []) (two_priorities web) ∷
    update 0 ((a2, Ready) ∷ []) (two_priorities web) ∷
    update 1000 ((a1, Ready) ∷ []) (two_priorities web) ∷
    update 1000 ((a2, Connecting) ∷ []) (two_priorities web) ∷
    update 10999 [] (two_priorities web) ∷
    update 11000 [] (two_priorities web) ∷
    update 900999 [] (two_priorities web) ∷
    update 901000 [] (two_priorities web) ∷
    []
    ) ≡
    (
    alone 0 (pending web 0 ∷ away web 1 Connecting ∷ []) queued ∷
    alone 1 (here web 0 Failing ∷ pending web 1 ∷ []) queued ∷
    alone 1 (here web 0 Failing ∷ here web 1 Ready ∷ []) (picked a2) ∷
    alone 0 (here web 0 Ready ∷ unused web 1 Ready ∷ []) (picked a1) ∷
    alone 0 (here web 0 Ready ∷ child web 1 true Connecting true true ∷ []) (picked a1) ∷
    alone 0 (here web 0 Ready ∷ child web 1 true Connecting true true ∷ []) (picked a1) ∷
    alone 0 (here web 0 Ready ∷ unused web 1 Connecting ∷ []) (picked a1) ∷
    alone 0 (here web 0 Ready ∷ unused web 1 Connecting ∷ []) (picked a1) ∷
    alone 0 (here web 0 Ready ∷ away web 1 Connecting ∷ []) (picked a1) ∷
    []
    )
row_unused = refl

-- a child that the walk doesn't reach has a state, and isn't there
row_hidden :
    played (
    update 0 [] (two_priorities web) ∷
    update 0 ((a2, Ready) ∷ []) (two_priorities web) ∷
    []
    ) ≡
    (
    alone 0 (pending web 0 ∷ away web 1 Connecting ∷ []) queued ∷
    alone 0 (pending web 0 ∷ away web 1 Ready ∷ []) queued ∷
    []
    )
row_hidden = refl

-- a cluster becomes an aggregate, whose tree waits until it is READY
row_kind :
    played (
    update 0 [] plain ∷
    update 0 ((a1, Ready) ∷ []) plain ∷
    update 0 [] other_kind ∷
    update 0 ((a2, Ready) ∷ []) other_kind ∷
    []
    ) ≡
    (
    alone 0 (pending g 0 ∷ []) queued ∷
    alone 0 (here g 0 Ready ∷ []) (picked a1) ∷
    beside 0 (here g 0 Ready ∷ []) (pending h 0 ∷ []) (picked a1) ∷
    alone 0 (here h 0 Ready ∷ []) (picked a2) ∷
    []
    )
row_kind = refl

-- it is of its first kind again while the other tree waits, which is let go
row_kind_and_back :
    played (
    update 0 ((a1, Ready) ∷ []) plain ∷
    update 0 [] other_kind ∷
    update 0 [] (two_priorities g) ∷
    []
    ) ≡
    (
    alone 0 (here g 0 Ready ∷ []) (picked a1) ∷
    beside 0 (here g 0 Ready ∷ []) (pending h 0 ∷ []) (picked a1) ∷
    alone 0 (here g 0 Ready ∷ away g 1 Connecting ∷ []) (picked a1) ∷
    []
    )
row_kind_and_back = refl

-- a new tree that fails takes over at once
row_failing_tree :
    played (
    update 0 ((a1, Ready) ∷ (a2, Failing) ∷ []) plain ∷
    update 0 [] other_kind ∷
    []
    ) ≡
    (
    alone 0 (here g 0 Ready ∷ []) (picked a1) ∷
    alone 0 (here h 0 Failing ∷ []) (Err (Some reason.Failing)) ∷
    []
    )
row_failing_tree = refl

-- two more leaves stand in front, of which one is in error: the child that was chosen keeps what is known of it, and goes out
-- of use
row_new_leaves :
    played (
    update 0 [] (aggregate (leaf web (locality 0 a1 ∷ locality 1 a2 ∷ []) ∷ [])) ∷
    update 0 ((a9, Ready) ∷ []) (aggregate (leaf web (locality 0 a1 ∷ locality 1 a2 ∷ []) ∷ [])) ∷
    update 15000 [] (aggregate (leaf g (locality 0 a9 ∷ []) ∷ record { name = h; state = Err reason.Absent } ∷ leaf web (locality 0 a1 ∷ locality 1 a2 ∷ []) ∷ [])) ∷
    []
    ) ≡
    (
    alone 0 (pending web 0 ∷ away web 1 Connecting ∷ []) queued ∷
    alone 0 (pending web 0 ∷ away web 1 Connecting ∷ []) queued ∷
    alone 0 (here g 0 Ready ∷ away h 0 Failing ∷ unused web 0 Connecting ∷ away web 1 Connecting ∷ []) (picked a9) ∷
    []
    )
row_new_leaves = refl
