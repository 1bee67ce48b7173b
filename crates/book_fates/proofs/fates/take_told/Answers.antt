use Rattle.std.proofs.Common.{arith, ap, length, sym, subst, []}
use Rattle.std.proofs.lemmas.List.Elements.{All-nil}
use Rattle.std.specs.Prelude.{◌≡◌, true}
use Rattle.book_fates.specs.Delivered.{delivered_in, told_as}
use Rattle.book_fates.specs.FateSteps.{AreListed, AreOf, is_theirs}
use Rattle.book_fates.proofs.ListedLemmas.{listed_on}
use Rattle.book_fates.proofs.WalkLemmas.{told_all, taken_knows}
use Rattle.book_fates.proofs.fates.take_told.Goals as goal

pub returns-clause-step : goal.returns-clause-step
returns-clause-step g c = told_all (told_as (delivered_in c.args.response)) c.args.cache.now c.let_go.new.cache c.take_parts.new.cache c.args.keys.now c.requires.ready.apart c.requires.only c.in_ok-let_go.ensures.step c.in_ok-take_parts.ensures.step

pub returns-clause-listed : goal.returns-clause-listed
returns-clause-listed g c =
    listed_on c.args.cache.now c.let_go.new.cache c.take_parts.new.cache [] c.let_go.new.changed c.take_parts.new.changed
    (subst (λ keys. AreListed c.args.cache.now c.let_go.new.cache keys c.let_go.new.changed) c.new-changed.ensures c.in_ok-let_go.ensures.listed)
    c.in_ok-take_parts.ensures.listed

pub returns-clause-theirs : goal.returns-clause-theirs
returns-clause-theirs g c =
    c.in_ok-take_parts.ensures.theirs
    (c.in_ok-let_go.ensures.theirs (subst (AreOf c.args.response.authority c.args.response.kind) (sym c.new-changed.ensures) (All-nil (λ key. is_theirs c.args.response.authority c.args.response.kind key ≡ true))))

pub returns-clause-few : goal.returns-clause-few
returns-clause-few g c spares = omega (arith, c.in_ok-take_parts.ensures.few, ap length (c.in_ok-let_go.ensures.few spares), ap length c.new-changed.ensures)

pub returns-clause-knows : goal.returns-clause-knows
returns-clause-knows g c s came past ps now is knows =
    taken_knows s came c.args.response past ps now c.args.cache.now c.take_parts.new.cache
    (told_all (told_as (delivered_in c.args.response)) c.args.cache.now c.let_go.new.cache c.take_parts.new.cache c.args.keys.now c.requires.ready.apart c.requires.only c.in_ok-let_go.ensures.step c.in_ok-take_parts.ensures.step) is knows
