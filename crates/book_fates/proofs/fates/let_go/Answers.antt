use Rattle.std.proofs.Common.{arith, sym, ◌∙◌}
use Rattle.book_fates.specs.Delivered.{delivered_in, told_as}
use Rattle.book_fates.proofs.KindLemmas.{gone_of_keys, most_looked_at}
use Rattle.book_fates.proofs.fates.let_go.Goals as goal

pub returns-clause-step : goal.returns-clause-step
returns-clause-step g c =
    gone_of_keys (told_as (delivered_in c.args.response.now)) c.args.keys.now c.of_kind-theirs.result.now c.args.cache.now c.let_each_go.new.cache c.of_kind-theirs.ensures c.in_ok-let_each_go.ensures.step

pub returns-clause-cost : goal.returns-clause-cost
returns-clause-cost g c =
    omega (arith, c.in_ok-let_each_go.ensures.cost, most_looked_at c.args.response.now.kind c.args.keys.now c.of_kind-theirs.result.now (sym c.deletes.ensures ∙ c.if-not-deletes.false) c.of_kind-theirs.ensures)
