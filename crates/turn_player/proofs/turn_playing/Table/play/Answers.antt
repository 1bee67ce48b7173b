use Rattle.std.proofs.Common.{◌≡◌, length, inl, refl}
use Rattle.turn_player.proofs.PlayLemmas.{hold_can, hold_made, made_seats, made_turn, made_more, next_can, next_of, none_more, on_err}
use Rattle.turn_player.proofs.turn_playing.Table.play.Goals as goal

pub returns-in-Hold-clause-seated : goal.returns-in-Hold-clause-seated
returns-in-Hold-clause-seated g c = λ is seated.
    made_seats c.hold.result c.args.turn.actor c.args.turn.line c.args.turn.more.now c.args.book.now c.hold.new.book c.args.self.now c.hold.new.self (g.P.Patterns.refused c.args.patterns.now) (g.P.Patterns.refused c.args.patterns.now)
    (c.told.ensures.made is)
    (hold_made c.hold.result g.J.Job.plan c.args.turn.actor c.args.turn.line c.args.turn.more.now c.args.book.now c.hold.new.book c.args.self.now c.hold.new.self (g.P.Patterns.refused c.args.patterns.now) (g.P.Patterns.refused c.args.patterns.now)
    c.in-Hold.ensures.place c.hold.ensures.made)
    seated

pub returns-in-Hold-clause-played : goal.returns-in-Hold-clause-played
returns-in-Hold-clause-played g c = λ is nonzero seated.
    made_turn c.hold.result c.args.turn.actor c.args.turn.line c.args.turn.more.now c.args.book.now c.hold.new.book c.args.self.now c.hold.new.self (g.P.Patterns.refused c.args.patterns.now) (g.P.Patterns.refused c.args.patterns.now)
    (c.told.ensures.made is)
    (hold_made c.hold.result g.J.Job.plan c.args.turn.actor c.args.turn.line c.args.turn.more.now c.args.book.now c.hold.new.book c.args.self.now c.hold.new.self (g.P.Patterns.refused c.args.patterns.now) (g.P.Patterns.refused c.args.patterns.now)
    c.in-Hold.ensures.place c.hold.ensures.made)
    seated

pub returns-in-Hold-clause-goes_on : goal.returns-in-Hold-clause-goes_on
returns-in-Hold-clause-goes_on g c = λ seated due nonzero.
    c.told.ensures.halts
    (c.hold.ensures.halts c.in-Hold.ensures.place.seat c.in-Hold.ensures.place.up c.in-Hold.ensures.place.at c.in-Hold.ensures.place.up_is
    (hold_can g.J.Job.plan c.args.plan.now.actors (length g.J.Job.boot.authorities) c.args.turn.actor c.args.turn.line c.args.book.now c.args.self.now c.requires.plan c.actors-actors.ensures.played c.in-Hold.ensures.place seated due))

pub returns-in-Next-clause-seated : goal.returns-in-Next-clause-seated
returns-in-Next-clause-seated g c = λ is seated.
    made_seats c.make_next.result c.args.turn.actor c.args.turn.line c.args.turn.more.now c.args.book.now c.make_next.new.book c.args.self.now c.make_next.new.self (g.P.Patterns.refused c.args.patterns.now)
    (g.P.Patterns.refused c.make_next.new.patterns) (c.told-in-Next.ensures.made is) c.make_next.ensures.made seated

pub returns-in-Next-clause-played : goal.returns-in-Next-clause-played
returns-in-Next-clause-played g c = λ is nonzero seated.
    made_turn c.make_next.result c.args.turn.actor c.args.turn.line c.args.turn.more.now c.args.book.now c.make_next.new.book c.args.self.now c.make_next.new.self (g.P.Patterns.refused c.args.patterns.now)
    (g.P.Patterns.refused c.make_next.new.patterns) (c.told-in-Next.ensures.made is) c.make_next.ensures.made seated

pub returns-in-Next-clause-goes_on : goal.returns-in-Next-clause-goes_on
returns-in-Next-clause-goes_on g c = λ seated due nonzero.
    c.told-in-Next.ensures.halts
    (c.make_next.ensures.halts c.in-Next.ensures.place.seat c.in-Next.ensures.place.at
    (next_can g.J.Job.plan c.args.plan.now.actors (length g.J.Job.boot.authorities) c.args.turn.actor c.args.turn.line c.args.book.now c.args.self.now c.in-Next.listed.now c.requires.plan c.actors-actors.ensures.played c.in-Next.ensures.place seated due)
    (next_of c.args.plan.now.actors c.args.turn.actor c.args.turn.line c.args.book.now c.args.self.now c.in-Next.listed.now c.in-Next.ensures.place seated due))

pub returns-in-Hold-clause-tells : goal.returns-in-Hold-clause-tells
returns-in-Hold-clause-tells g c = λ other. inl refl

pub returns-in-Next-clause-tells : goal.returns-in-Next-clause-tells
returns-in-Next-clause-tells g c = λ other. c.make_next.ensures.tells (λ memory. other (c.told-in-Next.ensures.memory memory))

pub returns-in-Hold-clause-none : goal.returns-in-Hold-clause-none
returns-in-Hold-clause-none g c = λ other. on_err c.hold.result (c.hold.new.book.entries ≡ c.args.book.now.entries) (c.told.ensures.none other) c.hold.ensures.none

pub returns-in-Next-clause-none : goal.returns-in-Next-clause-none
returns-in-Next-clause-none g c = λ other. on_err c.make_next.result (c.make_next.new.book.entries ≡ c.args.book.now.entries) (c.told-in-Next.ensures.none other) c.make_next.ensures.none

pub returns-in-Misplaced-clause-more : goal.returns-in-Misplaced-clause-more
returns-in-Misplaced-clause-more g c = none_more c.args.book.now.entries

pub returns-in-Sweep-clause-more : goal.returns-in-Sweep-clause-more
returns-in-Sweep-clause-more g c = none_more c.args.book.now.entries

pub returns-in-Hold-clause-more : goal.returns-in-Hold-clause-more
returns-in-Hold-clause-more g c =
    made_more c.hold.result c.args.turn.actor c.args.turn.line c.args.turn.more.now c.args.book.now c.hold.new.book c.args.self.now c.hold.new.self (g.P.Patterns.refused c.args.patterns.now) (g.P.Patterns.refused c.args.patterns.now)
    (hold_made c.hold.result g.J.Job.plan c.args.turn.actor c.args.turn.line c.args.turn.more.now c.args.book.now c.hold.new.book c.args.self.now c.hold.new.self (g.P.Patterns.refused c.args.patterns.now) (g.P.Patterns.refused c.args.patterns.now)
    c.in-Hold.ensures.place c.hold.ensures.made)
    c.hold.ensures.none

pub returns-in-Next-clause-more : goal.returns-in-Next-clause-more
returns-in-Next-clause-more g c =
    made_more c.make_next.result c.args.turn.actor c.args.turn.line c.args.turn.more.now c.args.book.now c.make_next.new.book c.args.self.now c.make_next.new.self (g.P.Patterns.refused c.args.patterns.now)
    (g.P.Patterns.refused c.make_next.new.patterns) c.make_next.ensures.made c.make_next.ensures.none

pub returns-in-Sweep-clause-left : goal.returns-in-Sweep-clause-left
returns-in-Sweep-clause-left g c = λ is zeroth. c.early_sweep.ensures.left (cc is)
