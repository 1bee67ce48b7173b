use Rattle.std.proofs.Common.{◌≡◌, ◌+◌, refl}
use Rattle.session_player.proofs.BeginLemmas.{goes_begin, lanes_begin}
use Rattle.session_player.proofs.stage.Stage.begin.Goals as goal

pub returns-clause-goes : goal.returns-clause-goes
returns-clause-goes g c = goes_begin c.args.session.now (c.args.session.now.callers + 1) c.room-room.result c.in_ok-book.book refl c.in_ok-book.ensures.book

pub invariant_of-result : goal.invariant_of-result
invariant_of-result g c =
    lanes_begin (c.args.session.now.callers + 1) c.room-room.result c.in_ok-book.book c.in_ok-book.lanes c.into_vec.result.items c.in_ok-book.ensures.book c.in_ok-book.ensures.lanes c.into_vec.ensures
