use Rattle.book_trees.proofs.FollowLemmas.{marks_stay, trees_kept_on, views_stay}
use Rattle.book_trees.proofs.StayingLemmas.{seen_in_place}
use Rattle.book_trees.proofs.reported_trees.ReportedTrees.stay.Goals as goal

pub returns-clause-views : goal.returns-clause-views
returns-clause-views c = λ past ps config at now.
    views_stay c.args.event.now past ps c.args.self.now config c.update_states.new.self c.in_ok-seen.seen.views c.in_ok-seen.ensures.step c.in_ok-seen.ensures.views at now

pub returns-clause-changed : goal.returns-clause-changed
returns-clause-changed c = λ past ps config at now.
    marks_stay c.args.event.now past ps c.args.self.now config c.update_states.new.self c.in_ok-seen.seen.views c.in_ok-seen.seen.changed c.in_ok-seen.ensures.step c.in_ok-seen.ensures.views c.in_ok-seen.ensures.changed at now

pub returns-clause-still : goal.returns-clause-still
returns-clause-still c = λ past ps config at now.
    seen_in_place c.args.event.now past ps c.args.self.now config c.in_ok-seen.seen.changed c.in_ok-seen.seen.views at now
    (views_stay c.args.event.now past ps c.args.self.now config c.update_states.new.self c.in_ok-seen.seen.views c.in_ok-seen.ensures.step c.in_ok-seen.ensures.views at now)
    (marks_stay c.args.event.now past ps c.args.self.now config c.update_states.new.self c.in_ok-seen.seen.views c.in_ok-seen.seen.changed c.in_ok-seen.ensures.step c.in_ok-seen.ensures.views c.in_ok-seen.ensures.changed at now)

pub returns-clause-kept : goal.returns-clause-kept
returns-clause-kept c = λ past ps config actor line reply page at now of.
    trees_kept_on c.args.event.now past ps config actor line reply page c.args.self.now c.update_states.new.self c.in_ok-seen.ensures.step c.in_ok-seen.ensures.updated at now of
