use Rattle.std.proofs.Common.{◌≡◌, sym, subst, ap, OnOk}
use Rattle.session_player.proofs.StageLemmas.{drove_seen, lanes_driven, own_lane}
use Rattle.session_player.proofs.stage.Stage.drive.Goals.{in-Ok, in-Err}
use Rattle.session_player.proofs.stage.Stage.drive.Goals as goal

pub apply-requires-clause-driver : goal.apply-requires-clause-driver
apply-requires-clause-driver g c = λ _ _. (own_lane c.self.inside.book c.self.inside.lanes.items 0 c.index_mut-lane.result.now c.self.invariant (rw (← c.self.view_is) at c.requires.some) c.index_mut-lane.ensures.value).at.actor_is

pub apply-requires-clause-counted : goal.apply-requires-clause-counted
apply-requires-clause-counted g c = λ _ _. (own_lane c.self.inside.book c.self.inside.lanes.items 0 c.index_mut-lane.result.now c.self.invariant (rw (← c.self.view_is) at c.requires.some) c.index_mut-lane.ensures.value).counted

pub apply-requires-clause-next : goal.apply-requires-clause-next
apply-requires-clause-next g c = λ _ _.
    let own = own_lane c.self.inside.book c.self.inside.lanes.items 0 c.index_mut-lane.result.now c.self.invariant (rw (← c.self.view_is) at c.requires.some) c.index_mut-lane.ensures.value in
    rw (own.at.actor_is, own.at.count_is) (rw (← c.self.view_is) at c.requires.next)

pub invariant_of-self : goal.invariant_of-self
invariant_of-self g c =
    lanes_driven c.apply.result c.self.inside.book c.apply.new.self c.self.inside.lanes.items c.args.line c.args.event c.args.prepared c.index_mut-lane.result.now c.apply.new.lane
    c.self.invariant (rw (← c.self.view_is) at c.requires.some) c.index_mut-lane.ensures.value c.apply.ensures.entry c.apply.ensures.none c.apply.ensures.lane

pub returns : goal.returns
returns g c = elim c.match-apply.branch [
  | in-Ok w ↦ rw w.result-is
      (drove_seen c.args.self.now c.self.inside.book c.apply.new.self c.self.inside.lanes.items c.args.line c.args.event c.args.prepared c.index_mut-lane.result.now c.apply.new.lane
      c.self.invariant (rw (← c.self.view_is) at c.requires.some) c.index_mut-lane.ensures.value c.self.view_is w.in-Ok.ensures.entry)
  | in-Err w ↦ rw w.result-is tt
]
