use Rattle.std.proofs.Common.{◌≡◌, ◌<◌, ◌^◌, Some, length, arith, refl, ◌∙◌, ap}
use Rattle.std.specs.Prelude.{option_copied, option_map}
use Rattle.call_journal.specs.declared.event.CallerEvent.{CallerEvent}
use Rattle.book_trees.specs.xds_history.Pages.{caller_page, pages}
use Rattle.book_trees.specs.xds_history.References.{held}
use Rattle.book_trees.specs.xds_history.Right.{shown}
use Rattle.book_picks.specs.TakenTurns.{IsShownAt}
use Rattle.book_picks.proofs.TakenLemmas.{at_caller, pages_many, picked}
use Rattle.book_picks.proofs.kept_turns.Turns.pick.Goals as goal

pub returns-clause-kept : goal.returns-clause-kept
returns-clause-kept c s past e id are at few is =
    let holds : held (pages s past) id ≡ Some c.in-Some.cluster.now = at.held_is ∙ ap (λ o. option_copied o) c.in-Some.is in
    let shows : IsShownAt (pages s past) c.in-Some-snapshot.snapshot.now = record { present = at.present; shows = at.shows ∙ ap (λ o. option_map shown (option_copied o)) c.in-Some-snapshot.is } in
    let many = pages_many s past in
    let small : length (pages s past) < 2 ^ 63 = omega arith in
    at_caller s past e c.pick_held.new.self (CallerEvent.Pick id c.args.word) c.pick_held.result is
    (picked (pages s past) (caller_page e past (pages s past)) c.args.self.now c.pick_held.new.self id c.args.word c.in-Some.cluster.now c.pick_held.result are holds
    (c.pick_held.ensures.takes (pages s past) are shows) small is refl refl)
