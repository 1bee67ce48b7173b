use Rattle.std.proofs.Common.{◌≡◌, sym, subst, ap, OnOk}
use Rattle.call_journal.specs.declared.event.CallerEvent.{CallerEvent}
use Rattle.legal_plan.specs.xds_history.Setting.{setting_of}
use Rattle.xds_book.specs.BookEntries.{answered_call}
use Rattle.session_player.proofs.StageLemmas.{adds_seen, lanes_after, own_lane}
use Rattle.session_player.proofs.stage.Stage.hold.Goals.{in-Ok, in-Err}
use Rattle.session_player.proofs.stage.Stage.hold.Goals as goal

pub hold-requires-clause-counted : goal.hold-requires-clause-counted
hold-requires-clause-counted g c = (own_lane c.self.inside.book c.self.inside.lanes.items c.args.caller c.index_mut-lane.result.now c.self.invariant (rw (← c.self.view_is) at c.requires.known) c.index_mut-lane.ensures.value).counted

pub hold-requires-clause-next : goal.hold-requires-clause-next
hold-requires-clause-next g c =
    let own = own_lane c.self.inside.book c.self.inside.lanes.items c.args.caller c.index_mut-lane.result.now c.self.invariant (rw (← c.self.view_is) at c.requires.known) c.index_mut-lane.ensures.value in
    rw (own.at.actor_is, own.at.count_is) (rw (← c.self.view_is) at c.requires.next)

pub invariant_of-self-2 : goal.invariant_of-self-2
invariant_of-self-2 g c =
    lanes_after c.hold.result c.self.inside.book c.hold.new.self c.self.inside.lanes.items c.args.caller c.args.line
    (answered_call (setting_of g.J.Job.boot g.J.Job.target) c.self.inside.book.entries (CallerEvent.Hold c.args.token.call)) c.index_mut-lane.result.now c.hold.new.lane
    c.self.invariant (rw (← c.self.view_is) at c.requires.known) c.index_mut-lane.ensures.value c.hold.ensures.entry c.hold.ensures.none c.hold.ensures.lane

pub returns : goal.returns
returns g c = elim c.match-hold.branch [
  | in-Ok w ↦ rw w.result-is
      (adds_seen c.args.self.now c.self.inside.book c.hold.new.self c.self.inside.lanes.items c.args.caller c.args.line
      (λ b. answered_call (setting_of g.J.Job.boot g.J.Job.target) b.entries (CallerEvent.Hold c.args.token.call)) c.index_mut-lane.result.now c.hold.new.lane
      c.self.invariant (rw (← c.self.view_is) at c.requires.known) c.index_mut-lane.ensures.value c.self.view_is w.in-Ok.ensures.entry)
  | in-Err w ↦ rw w.result-is tt
]
