use Rattle.std.proofs.Common.{sym, drop, ◌∙◌}
use Rattle.xc_keys.proofs.KeyLemmas.{exact_keys}
use Rattle.book_streams.proofs.MarkLemmas.{compared_same, compared_before, compared_after}
use Rattle.book_streams.proofs.changed_names.compare_next.Goals as goal

pub returns-in-Equal-clause-compared : goal.returns-in-Equal-clause-compared
returns-in-Equal-clause-compared c =
    compared_same c.args.marks.now c.args.before.now c.args.after.now c.args.at.before c.args.at.after c.index-before-at.result c.index-after-at.result c.requires.before c.requires.after c.index-before-at.is c.index-after-at.is
    (exact_keys c.index-before-at.result c.index-after-at.result (sym c.compare.ensures ∙ c.in-Equal.is))

pub returns-in-Less-clause-compared : goal.returns-in-Less-clause-compared
returns-in-Less-clause-compared c =
    compared_before c.args.marks.now c.mark_home.new.marks c.args.before.now (drop c.args.at.after c.args.after.now) c.args.at.before c.index-before-at.result c.requires.before c.index-before-at.is c.mark_home.ensures

pub returns-in-Greater-clause-compared : goal.returns-in-Greater-clause-compared
returns-in-Greater-clause-compared c =
    compared_after c.args.marks.now c.mark_home-in-Greater.new.marks (drop c.args.at.before c.args.before.now) c.args.after.now c.args.at.after c.index-after-at.result c.requires.after c.index-after-at.is c.mark_home-in-Greater.ensures
