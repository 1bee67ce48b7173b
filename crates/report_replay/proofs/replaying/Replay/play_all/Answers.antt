use Rattle.std.proofs.Common.{rules, ◌≡◌, ◌+◌, ◌-◌, ◌^◌, List, inr, subst, sym, ◌∙◌}
use Rattle.call_journal.specs.declared.plan.Listed.{Listed}
use Rattle.replay_law.proofs.listed_events.TellLemmas.{tells_through}
use Rattle.report_replay.specs.ReplayedTurns.{IsLegalReplay, IsNextOfAny, IsNextOfReplay}
use Rattle.replay_steps.specs.declared.next_turns.Next.{Next}
use Rattle.report_replay.proofs.PlayLemmas.{all_played, mistake_found, told_same, turns_are_few}
use Rattle.report_replay.proofs.replaying.Replay.play_all.Goals as goal

pub returns-clause-any : goal.returns-clause-any
returns-clause-any g c = λ under. (c.loop-turn.invariant.under_way under).no_sweep

pub returns-clause-replayed : goal.returns-clause-replayed
returns-clause-replayed g c = λ session history parting legal alike start same.
    let all : c.loop-turn.turn ≡ 2 ^ 32 - 1 = search rules in
    inr (turns_are_few session history parting c.loop-turn.turn c.loop-turn.book c.loop-turn.self (c.loop-turn.invariant.replayed session history parting legal alike start same) c.actors-actors.ensures.few all)

pub returns-in-End-clause-replayed : goal.returns-in-End-clause-replayed
returns-in-End-clause-replayed g c = λ session history parting legal alike start same.
    let told : g.P.Patterns.refused c.loop-turn.patterns ≡ g.P.Patterns.refused c.args.patterns.now =
    told_same (g.P.Patterns.refused c.args.patterns.now) (g.P.Patterns.refused c.loop-turn.patterns) (g.P.Patterns.refused c.play_next.new.patterns) c.loop-turn.invariant.tells c.in_ok-play_next.ensures.tells same in
    let own : IsLegalReplay g.J.Job.plan g.J.Job.boot g.J.Job.target session history c.loop-turn.self.plan =
    subst (λ (lists : List (List Listed)). IsLegalReplay g.J.Job.plan g.J.Job.boot g.J.Job.target session history lists) (sym c.loop-turn.invariant.plan) legal in
    all_played session history parting (c.loop-turn.turn + 1) (g.P.Patterns.refused c.loop-turn.patterns) (g.P.Patterns.refused c.play_next.new.patterns) c.play_next.new.book c.play_next.new.self c.in_ok-play_next.field-0 c.in-End.is
    (c.in_ok-play_next.ensures.right session history parting c.loop-turn.turn own alike (c.loop-turn.invariant.replayed session history parting legal alike start told))

pub returns-in-Wrong-clause-replayed : goal.returns-in-Wrong-clause-replayed
returns-in-Wrong-clause-replayed g c = λ session history parting legal alike start same.
    let told : g.P.Patterns.refused c.loop-turn.patterns ≡ g.P.Patterns.refused c.args.patterns.now =
    told_same (g.P.Patterns.refused c.args.patterns.now) (g.P.Patterns.refused c.loop-turn.patterns) (g.P.Patterns.refused c.play_next.new.patterns) c.loop-turn.invariant.tells c.in_ok-play_next.ensures.tells same in
    let own : IsLegalReplay g.J.Job.plan g.J.Job.boot g.J.Job.target session history c.loop-turn.self.plan =
    subst (λ (lists : List (List Listed)). IsLegalReplay g.J.Job.plan g.J.Job.boot g.J.Job.target session history lists) (sym c.loop-turn.invariant.plan) legal in
    mistake_found session history parting (c.loop-turn.turn + 1) (g.P.Patterns.refused c.loop-turn.patterns) (g.P.Patterns.refused c.play_next.new.patterns) c.play_next.new.book c.play_next.new.self c.in_ok-play_next.field-0
    c.in-Wrong.mistake c.in-Wrong.is (c.in_ok-play_next.ensures.right session history parting c.loop-turn.turn own alike (c.loop-turn.invariant.replayed session history parting legal alike start told))

pub loop-turn-preserved : goal.loop-turn-preserved
loop-turn-preserved g c = record {
  plan = c.in_ok-play_next.ensures.plan ∙ c.loop-turn.invariant.plan;
  tells = tells_through (g.P.Patterns.refused c.args.patterns.now) (g.P.Patterns.refused c.loop-turn.patterns) (g.P.Patterns.refused c.play_next.new.patterns) c.loop-turn.invariant.tells c.in_ok-play_next.ensures.tells;
  under_way = λ under.
      subst (λ (n : Next). IsNextOfAny c.loop-turn.self.plan c.play_next.new.book c.play_next.new.self.seats n) c.in-Played.is (c.in_ok-play_next.ensures.any (c.loop-turn.invariant.under_way under));
  replayed = λ session history parting legal alike start same.
      let told : g.P.Patterns.refused c.loop-turn.patterns ≡ g.P.Patterns.refused c.args.patterns.now =
      told_same (g.P.Patterns.refused c.args.patterns.now) (g.P.Patterns.refused c.loop-turn.patterns) (g.P.Patterns.refused c.play_next.new.patterns) c.loop-turn.invariant.tells c.in_ok-play_next.ensures.tells same in
      let own : IsLegalReplay g.J.Job.plan g.J.Job.boot g.J.Job.target session history c.loop-turn.self.plan =
      subst (λ (lists : List (List Listed)). IsLegalReplay g.J.Job.plan g.J.Job.boot g.J.Job.target session history lists) (sym c.loop-turn.invariant.plan) legal in
      let came =
      subst
      (λ (n : Next). IsNextOfReplay session history parting (c.loop-turn.turn + 1) (g.P.Patterns.refused c.loop-turn.patterns) (g.P.Patterns.refused c.play_next.new.patterns) c.play_next.new.book c.play_next.new.self n)
      c.in-Played.is (c.in_ok-play_next.ensures.right session history parting c.loop-turn.turn own alike (c.loop-turn.invariant.replayed session history parting legal alike start told)) in
      came (same ∙ sym told);
}
