use Rattle.book_trees.proofs.FollowLemmas.{marks_follow, trees_kept, views_follow}
use Rattle.book_trees.proofs.StayingLemmas.{stay_in_place}
use Rattle.book_trees.proofs.reported_trees.ReportedTrees.follow.Goals as goal

pub returns-clause-views : goal.returns-clause-views
returns-clause-views c = λ past ps at.
    views_follow c.args.event.now past ps c.args.self.now c.args.next.config.now c.update.new.self c.in_ok-followed.followed.seen.views c.requires.lawful c.in_ok-followed.ensures.step c.in_ok-followed.ensures.views at

pub returns-clause-changed : goal.returns-clause-changed
returns-clause-changed c = λ past ps at.
    marks_follow c.args.event.now past ps c.args.self.now c.args.next.config.now c.update.new.self c.in_ok-followed.followed.seen.views c.in_ok-followed.followed.seen.changed c.requires.lawful c.in_ok-followed.ensures.step c.in_ok-followed.ensures.views c.in_ok-followed.ensures.changed at

pub returns-clause-still : goal.returns-clause-still
returns-clause-still c = λ past ps at.
    stay_in_place c.args.event.now past ps c.args.self.now c.args.next.config.now c.update.new.self c.in_ok-followed.followed.anew c.requires.lawful c.in_ok-followed.ensures.step c.in_ok-followed.ensures.anew at

pub returns-clause-kept : goal.returns-clause-kept
returns-clause-kept c = λ past ps actor line reply page at of.
    trees_kept c.args.event.now past ps actor line reply page c.args.self.now c.args.next.config.now c.update.new.self c.requires.lawful c.in_ok-followed.ensures.step c.in_ok-followed.ensures.updated at of
