use Rattle.std.proofs.Common.{None, refl}
use Rattle.turn_player.proofs.PlaceLemmas.{nothing_next, nothing_swept}
use Rattle.turn_player.proofs.turn_places.place_free.Goals as goal

pub returns-in_default-clause-place : goal.returns-in_default-clause-place
returns-in_default-clause-place g c = λ own. nothing_next c.args.plan.now.actors c.args.lane.now None c.args.turn.line c.args.book.now c.in_default.ensures.some refl

pub returns-in_default-clause-sweep : goal.returns-in_default-clause-sweep
returns-in_default-clause-sweep g c = λ zero has. nothing_swept c.args.plan.now.actors c.args.lane.now None c.in_default.ensures.some refl has
