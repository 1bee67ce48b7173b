use Rattle.std.proofs.Common.{length}
use Rattle.book_picks.proofs.MarkedPlaces.{place_in_turn}
use Rattle.book_picks.proofs.RenewedLemmas.{AreRenewedTo}
use Rattle.book_picks.proofs.kept_turns.Turns.renew_rows.Given as goal

abbrev pub invariant-loop-place : goal.invariant-loop-place
invariant-loop-place l = AreRenewedTo (place_in_turn l.place-items (length l.snapshot.config.clusters) l.place-index) l.trees l.snapshot l.marks l.fn.self l.self
