use Rattle.std.proofs.Common.{◌+◌, ℕ, List, subst, sym}
use Rattle.call_journal.specs.declared.entry.Entry.{Entry}
use Rattle.session_lines.specs.declared.session.Session.{Session}
use Rattle.alike_law.specs.AlikeTexts.{ListsAlike, Parting}
use Rattle.report_turns.specs.TurnLines.{end, strange}
use Rattle.report_replay.specs.ReplayedTurns.{HasReplayed, IsBeyond, IsLegalReplay, IsNextOfAny, IsNextOfReplay, IsTurnIn, IsUnderWay, ReplayView}
use Rattle.replay_steps.specs.declared.next_turns.Next.{Next}
use Rattle.report_replay.proofs.AnyLemmas.{end_of_any}
use Rattle.report_replay.proofs.FoundLemmas.{entry_found, none_found}
use Rattle.report_replay.proofs.PlayLemmas.{beyond_next, if_ok}
use Rattle.report_replay.proofs.replaying.Replay.play_next.Goals as goal

pub returns-in-Entry-clause-right : goal.returns-in-Entry-clause-right
returns-in-Entry-clause-right g c =
    let view : ReplayView = record { plan = c.self.inside.plan.now.actors; seats = c.self.inside.table; lines = c.self.inside.turns } in
    let later : ReplayView = record { plan = c.self.inside.plan.now.actors; seats = c.self.inside.table; lines = c.find.new.self } in
    if_ok
    (λ (n : Next). (session : Session) (history : List Entry) (parting : Parting) (made : ℕ) → IsLegalReplay g.J.Job.plan g.J.Job.boot g.J.Job.target session history later.plan
    → IsTurnIn session history parting made c.in-Entry.turn c.args.book.now later
    → IsNextOfReplay session history parting (made + 1) (g.P.Patterns.refused c.args.patterns.now) (g.P.Patterns.refused c.play_turn.new.patterns) c.play_turn.new.book c.play_turn.new.self n)
    (λ (n : Next). (session : Session) (history : List Entry) (parting : Parting) (made : ℕ) → IsLegalReplay g.J.Job.plan g.J.Job.boot g.J.Job.target session history c.args.self.now.plan → ListsAlike parting
    → HasReplayed session history parting made c.args.book.now c.args.self.now
    → IsNextOfReplay session history parting (made + 1) (g.P.Patterns.refused c.args.patterns.now) (g.P.Patterns.refused c.play_turn.new.patterns) c.play_turn.new.book c.play_turn.new.self n)
    c.play_turn.result
    (λ n holds session history parting made legal alike replayed.
    let own : IsLegalReplay g.J.Job.plan g.J.Job.boot g.J.Job.target session history later.plan =
    subst (λ (r : ReplayView). IsLegalReplay g.J.Job.plan g.J.Job.boot g.J.Job.target session history r.plan) (sym c.self.view_is) legal in
    let come : HasReplayed session history parting made c.args.book.now view = subst (λ (r : ReplayView). HasReplayed session history parting made c.args.book.now r) (sym c.self.view_is) replayed in
    holds session history parting made own
    (entry_found session history parting made c.args.book.now view c.in-Entry.turn c.find.new.self own.legal own.turns alike come c.in-Entry.ensures.found c.in-Entry.ensures.left c.in-Entry.ensures.behind))
    c.play_turn.ensures.right

pub returns-in-Strange-clause-right : goal.returns-in-Strange-clause-right
returns-in-Strange-clause-right g c = λ session history parting made legal alike replayed.
    let view : ReplayView = record { plan = c.self.inside.plan.now.actors; seats = c.self.inside.table; lines = c.self.inside.turns } in
    let come : HasReplayed session history parting made c.args.book.now view = subst (λ (r : ReplayView). HasReplayed session history parting made c.args.book.now r) (sym c.self.view_is) replayed in
    none_found session history parting made c.args.book.now view strange legal.turns come c.in-Strange.ensures.found (λ place is. absurd (cc is))

pub returns-in-End-clause-right : goal.returns-in-End-clause-right
returns-in-End-clause-right g c = λ session history parting made legal alike replayed.
    let view : ReplayView = record { plan = c.self.inside.plan.now.actors; seats = c.self.inside.table; lines = c.self.inside.turns } in
    let later : ReplayView = record { plan = c.self.inside.plan.now.actors; seats = c.self.inside.table; lines = c.find.new.self } in
    let come : HasReplayed session history parting made c.args.book.now view = subst (λ (r : ReplayView). HasReplayed session history parting made c.args.book.now r) (sym c.self.view_is) replayed in
    let beyond : IsBeyond session history parting c.args.book.now = none_found session history parting made c.args.book.now view end legal.turns come c.in-End.ensures.found (λ place is. absurd (cc is)) in
    beyond_next session history parting (made + 1) (g.P.Patterns.refused c.args.patterns.now) (g.P.Patterns.refused c.args.patterns.now) c.args.book.now later c.end.result beyond

pub returns-in-Entry-clause-any : goal.returns-in-Entry-clause-any
returns-in-Entry-clause-any g c =
    if_ok (λ (n : Next). IsUnderWay c.args.book.now c.self.inside.table → IsNextOfAny c.self.inside.plan.now.actors c.play_turn.new.book c.play_turn.new.self.seats n)
    (λ (n : Next). IsUnderWay c.args.book.now c.args.self.now.seats → IsNextOfAny c.args.self.now.plan c.play_turn.new.book c.play_turn.new.self.seats n)
    c.play_turn.result
    (λ n holds under.
    subst (λ (r : ReplayView). IsNextOfAny r.plan c.play_turn.new.book c.play_turn.new.self.seats n) c.self.view_is
    (holds (subst (λ (r : ReplayView). IsUnderWay c.args.book.now r.seats) (sym c.self.view_is) under)))
    c.play_turn.ensures.any

pub returns-in-Strange-clause-any : goal.returns-in-Strange-clause-any
returns-in-Strange-clause-any g c = λ under. under.no_sweep

pub returns-in-End-clause-any : goal.returns-in-End-clause-any
returns-in-End-clause-any g c = λ under.
    subst (λ (r : ReplayView). IsNextOfAny r.plan c.args.book.now c.self.inside.table c.end.result) c.self.view_is
    (end_of_any c.self.inside.plan.now.actors c.args.book.now c.self.inside.table c.end.result c.end.ensures (subst (λ (r : ReplayView). IsUnderWay c.args.book.now r.seats) (sym c.self.view_is) under))
