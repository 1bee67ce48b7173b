use Rattle.std.proofs.Common.{◌≡◌, sym, subst, ap, OnOk}
use Rattle.call_journal.specs.declared.event.CallerEvent.{CallerEvent}
use Rattle.legal_plan.specs.xds_history.Setting.{setting_of}
use Rattle.xds_book.specs.BookEntries.{answered_call}
use Rattle.session_player.proofs.StageLemmas.{adds_seen, lanes_after, own_lane}
use Rattle.session_player.proofs.stage.Stage.pin.Goals.{in-Ok, in-Err}
use Rattle.session_player.proofs.stage.Stage.pin.Goals as goal

pub pin-requires-clause-counted : goal.pin-requires-clause-counted
pin-requires-clause-counted g c = (own_lane c.self.inside.book c.self.inside.lanes.items c.args.caller c.index_mut-lane.result.now c.self.invariant (rw (← c.self.view_is) at c.requires.known) c.index_mut-lane.ensures.value).counted

pub pin-requires-clause-next : goal.pin-requires-clause-next
pin-requires-clause-next g c =
    let own = own_lane c.self.inside.book c.self.inside.lanes.items c.args.caller c.index_mut-lane.result.now c.self.invariant (rw (← c.self.view_is) at c.requires.known) c.index_mut-lane.ensures.value in
    rw (own.at.actor_is, own.at.count_is) (rw (← c.self.view_is) at c.requires.next)

pub invariant_of-self : goal.invariant_of-self
invariant_of-self g c =
    lanes_after c.pin.result c.self.inside.book c.pin.new.self c.self.inside.lanes.items c.args.caller c.args.line
    (answered_call (setting_of g.J.Job.boot g.J.Job.target) c.self.inside.book.entries (CallerEvent.Pin c.args.call)) c.index_mut-lane.result.now c.pin.new.lane
    c.self.invariant (rw (← c.self.view_is) at c.requires.known) c.index_mut-lane.ensures.value c.pin.ensures.entry c.pin.ensures.none c.pin.ensures.lane

pub returns-clause-adds : goal.returns-clause-adds
returns-clause-adds g c = elim c.match-pin.branch [
  | in-Ok w ↦ rw w.result-is
      (adds_seen c.args.self.now c.self.inside.book c.pin.new.self c.self.inside.lanes.items c.args.caller c.args.line
      (λ b. answered_call (setting_of g.J.Job.boot g.J.Job.target) b.entries (CallerEvent.Pin c.args.call)) c.index_mut-lane.result.now c.pin.new.lane
      c.self.invariant (rw (← c.self.view_is) at c.requires.known) c.index_mut-lane.ensures.value c.self.view_is w.in-Ok.ensures.entry)
  | in-Err w ↦ rw w.result-is tt
]
