use Rattle.std.proofs.Common.{rules, ◌+◌, ℕ, List, length, subst, sym}
use Rattle.call_journal.specs.declared.entry.Entry.{Entry}
use Rattle.session_lines.specs.declared.session.Session.{Session}
use Rattle.alike_law.specs.AlikeTexts.{Parting}
use Rattle.completion_law.specs.CompletionLaw.{HasNoSweep}
use Rattle.replay_law.specs.listed_events.ListedEvents.{TellsOn}
use Rattle.turn_player.specs.xds_book.BookKept.{HasActors}
use Rattle.replay_steps.specs.NextTurns.{next_made}
use Rattle.report_replay.specs.ReplayedTurns.{IsLegalReplay, IsNextOfAny, IsNextOfReplay, IsTurnIn, IsUnderWay, ReplayView}
use Rattle.replay_steps.specs.declared.next_turns.Next.{Next}
use Rattle.report_replay.proofs.AnyLemmas.{next_of_any, turn_leaves_any}
use Rattle.report_replay.proofs.PlayLemmas.{IsMade, next_is, next_tells, not_misplaced, not_strange, turn_leaves, turn_stops}
use Rattle.report_replay.proofs.replaying.Replay.play_turn.Goals as goal

pub returns-clause-tells : goal.returns-clause-tells
returns-clause-tells g c =
    next_tells (TellsOn (g.P.Patterns.refused c.args.patterns.now) (g.P.Patterns.refused c.play-played.new.patterns)) c.args.turn.line c.play-played.result c.next_after.result c.next_after.ensures.after c.play-played.ensures.tells

pub returns-clause-right : goal.returns-clause-right
returns-clause-right g c =
    let view : ReplayView = record { plan = c.self.inside.plan.now.actors; seats = c.self.inside.table; lines = c.self.inside.turns } in
    let later : ReplayView = record { plan = c.self.inside.plan.now.actors; seats = c.play-played.new.self; lines = c.self.inside.turns } in
    let actors : HasActors g.J.Job.plan (length c.args.book.now.counts) = search (rules, c.actors-actors.ensures.plan, c.actors-actors.ensures.counts) in
    let own : (session : Session) (history : List Entry) → IsLegalReplay g.J.Job.plan g.J.Job.boot g.J.Job.target session history c.args.self.now.plan
    → IsLegalReplay g.J.Job.plan g.J.Job.boot g.J.Job.target session history view.plan = λ session history legal.
    subst (λ (r : ReplayView). IsLegalReplay g.J.Job.plan g.J.Job.boot g.J.Job.target session history r.plan) (sym c.self.view_is) legal in
    let turn : (session : Session) (history : List Entry) (parting : Parting) (made : ℕ) → IsTurnIn session history parting made c.args.turn c.args.book.now c.args.self.now → IsTurnIn session history parting made c.args.turn c.args.book.now view =
    λ session history parting made of. subst (λ (r : ReplayView). IsTurnIn session history parting made c.args.turn c.args.book.now r) (sym c.self.view_is) of in
    let stops : (n : Next) (session : Session) (history : List Entry) (parting : Parting) (made : ℕ) → IsLegalReplay g.J.Job.plan g.J.Job.boot g.J.Job.target session history c.args.self.now.plan
    → IsTurnIn session history parting made c.args.turn c.args.book.now c.args.self.now → (IsMade c.play-played.result → ⊥)
    → IsNextOfReplay session history parting (made + 1) (g.P.Patterns.refused c.args.patterns.now) (g.P.Patterns.refused c.play-played.new.patterns) c.play-played.new.book later n = λ n session history parting made legal of not.
    turn_stops g.J.Job.plan g.J.Job.boot g.J.Job.target session history view.plan parting made c.args.turn c.args.book.now c.play-played.new.book view c.play-played.result (g.P.Patterns.refused c.args.patterns.now)
    (g.P.Patterns.refused c.play-played.new.patterns) later n (own session history legal) actors (turn session history parting made of) c.play-played.ensures.goes_on c.play-played.ensures.sweeps c.play-played.ensures.more not in
    next_is
    (λ (n : Next). (session : Session) (history : List Entry) (parting : Parting) (made : ℕ) → IsLegalReplay g.J.Job.plan g.J.Job.boot g.J.Job.target session history c.args.self.now.plan
    → IsTurnIn session history parting made c.args.turn c.args.book.now c.args.self.now
    → IsNextOfReplay session history parting (made + 1) (g.P.Patterns.refused c.args.patterns.now) (g.P.Patterns.refused c.play-played.new.patterns) c.play-played.new.book later n)
    c.args.turn.line c.play-played.result c.next_after.result c.next_after.ensures.after
    (λ is session history parting made legal of.
    turn_leaves g.J.Job.plan g.J.Job.boot g.J.Job.target session history view.plan parting made c.args.turn c.args.book.now c.play-played.new.book view c.play-played.new.self (g.P.Patterns.refused c.args.patterns.now)
    (g.P.Patterns.refused c.play-played.new.patterns) (own session history legal) (turn session history parting made of) (c.play-played.ensures.seated is) (c.play-played.ensures.played is) (c.play-played.ensures.last is) c.play-played.ensures.more
    c.actors-after.ensures.right c.actors-after.ensures.played)
    (λ why is n session history parting made legal of. stops n session history parting made legal of (λ goes. not_misplaced c.play-played.result why goes is))
    (λ is n session history parting made legal of. stops n session history parting made legal of (λ goes. not_strange c.play-played.result goes is))

pub returns-clause-any : goal.returns-clause-any
returns-clause-any g c =
    next_of_any
    (λ (n : Next). IsUnderWay c.args.book.now c.args.self.now.seats → IsNextOfAny c.args.self.now.plan c.play-played.new.book c.play-played.new.self n)
    c.args.turn.line c.play-played.result c.next_after.result c.next_after.ensures.after c.next_after.ensures.wrong
    (λ is under.
    subst (λ (r : ReplayView). IsNextOfAny r.plan c.play-played.new.book c.play-played.new.self (next_made c.args.turn.line)) c.self.view_is
    (turn_leaves_any c.self.inside.plan.now.actors c.args.turn.actor c.args.turn.line c.args.turn.more.now c.args.book.now c.play-played.new.book c.self.inside.table c.play-played.new.self (g.P.Patterns.refused c.args.patterns.now)
    (g.P.Patterns.refused c.play-played.new.patterns) (c.play-played.ensures.seated is) (c.play-played.ensures.played is) (c.play-played.ensures.last is) (c.play-played.ensures.left is)
    (subst (λ (r : ReplayView). IsUnderWay c.args.book.now r.seats) (sym c.self.view_is) under)))
    (λ not mistake under. subst (λ (es : List Entry). HasNoSweep es) (sym (c.play-played.ensures.none not)) under.no_sweep)
