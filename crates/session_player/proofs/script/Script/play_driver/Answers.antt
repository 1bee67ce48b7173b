use Rattle.std.proofs.Common.{◌≡◌, ◌≤◌, arith, refl}
use Rattle.session_player.proofs.RefusedLemmas.{refuses_none, refuses_then}
use Rattle.session_player.proofs.ScriptLemmas.{driven_ends, driven_on, driven_over}
use Rattle.session_player.proofs.script.Script.play_driver.Goals as goal

pub loop-turn-init : goal.loop-turn-init
loop-turn-init g c = record {
  stands = c.requires.stands;
  same = λ place stands. stands;
  counts = omega arith;
  refused = refuses_none c.args.stage.now.entries c.args.stage.now.entries (g.P.Patterns.refused c.args.patterns.now) refl;
}

pub returns-then-branch-clause-stands : goal.returns-then-branch-clause-stands
returns-then-branch-clause-stands g c = λ place stands.
    driven_ends c.args.self.now.session.now place c.drive.new.stage c.in_ok-drive.field-0 c.if-branch.true (c.in_ok-drive.ensures.stands place (c.loop-turn.invariant.same place stands))

pub returns-then-branch-clause-refused : goal.returns-then-branch-clause-refused
returns-then-branch-clause-refused g c =
    refuses_then c.args.stage.now.entries c.loop-turn.stage.entries c.drive.new.stage.entries (g.P.Patterns.refused c.args.patterns.now) (g.P.Patterns.refused c.loop-turn.patterns) (g.P.Patterns.refused c.drive.new.patterns)
    c.loop-turn.invariant.refused c.in_ok-drive.ensures.refused

pub loop-turn-preserved : goal.loop-turn-preserved
loop-turn-preserved g c = record {
  stands = (
    c.loop-turn.invariant.stands.0,
    driven_on c.args.self.now.session.now c.loop-turn.invariant.stands.0 c.drive.new.stage c.in_ok-drive.field-0 c.if-branch.false
        (c.in_ok-drive.ensures.stands c.loop-turn.invariant.stands.0 c.loop-turn.invariant.stands.1),
  );
  same = λ place stands.
      driven_on c.args.self.now.session.now place c.drive.new.stage c.in_ok-drive.field-0 c.if-branch.false (c.in_ok-drive.ensures.stands place (c.loop-turn.invariant.same place stands));
  counts = (let before = c.loop-turn.invariant.counts in let one = c.in_ok-drive.ensures.counts in omega (arith, before, one));
  refused = refuses_then c.args.stage.now.entries c.loop-turn.stage.entries c.drive.new.stage.entries (g.P.Patterns.refused c.args.patterns.now) (g.P.Patterns.refused c.loop-turn.patterns)
      (g.P.Patterns.refused c.drive.new.patterns) c.loop-turn.invariant.refused c.in_ok-drive.ensures.refused;
}

pub returns-clause-stands : goal.returns-clause-stands
returns-clause-stands g c = λ place stands.
    let past : c.len-turn-end.result ≤ c.loop-turn.turn = omega (arith, c.loop-turn-test.false) in
    absurd (driven_over c.args.self.now.session.now c.loop-turn.invariant.stands.0 c.loop-turn.stage c.args.self.now.plan.now.actors c.at.result.now c.len-turn-end.result c.loop-turn.turn c.requires.of.lists_are
    c.loop-turn.invariant.stands.1 c.at.ensures c.len-turn-end.ensures past c.loop-turn.invariant.counts)
