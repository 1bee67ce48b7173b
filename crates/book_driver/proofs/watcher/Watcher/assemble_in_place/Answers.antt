use Rattle.book_driver.proofs.InPlaceLemmas.{followed, found_in_place}
use Rattle.book_driver.proofs.watcher.Watcher.assemble_in_place.Goals as goal

pub returns-clause-found : goal.returns-clause-found
returns-clause-found g c =
    found_in_place c.args.calls c.args.self.now c.args.changed.now c.update_in_place.new.self c.requires.same c.requires.changed (c.are_known_served.ensures c.if-not-are_known_served.false) c.in_ok-found.found
    (followed c.args.self.now c.args.changed.now c.update_in_place.new.self c.in_ok-found.found c.in_ok-found.ensures.outcome c.in_ok-found.ensures.serves c.in_ok-found.ensures.watched c.in_ok-found.ensures.kept c.in_ok-found.ensures.held
    c.in_ok-found.ensures.stays c.in_ok-found.ensures.rising c.in_ok-found.ensures.others c.in_ok-found.ensures.shown)
