use Rattle.std.proofs.Common.{◌∷◌, ◌++◌, ◌≡◌, [], ap, rules, sym, ◌∙◌}
use Rattle.std.specs.Prelude.{if◌then◌else◌}
use Rattle.xds_cache.specs.KeptFates.{fate_of, taken_away}
use Rattle.book_fates.specs.FateSteps.{is_let_go}
use Rattle.book_fates.specs.Delivered.{delivered_in, told_as}
use Rattle.book_fates.proofs.ListedLemmas.{gone_theirs, listed_if, of_if}
use Rattle.book_fates.proofs.WalkLemmas.{goes, remains}
use Rattle.book_fates.proofs.fates.let_one_go.Goals as goal

pub returns-then-not-is_let_go-clause-step : goal.returns-then-not-is_let_go-clause-step
returns-then-not-is_let_go-clause-step g c =
    remains (told_as (delivered_in c.args.response.now)) c.args.cache.now c.args.key.now
    (ap (λ known. is_let_go (told_as (delivered_in c.args.response.now)) c.args.key.now known) (sym c.get.ensures.fate) ∙ sym c.is_let_go.ensures ∙ c.if-not-is_let_go.true)

pub returns-clause-step : goal.returns-clause-step
returns-clause-step g c =
    goes (told_as (delivered_in c.args.response.now)) c.args.cache.now c.delete-is_other.new.self c.args.key.now
    (ap (λ known. is_let_go (told_as (delivered_in c.args.response.now)) c.args.key.now known) (sym c.get.ensures.fate) ∙ sym c.is_let_go.ensures ∙ c.if-not-is_let_go.false)
    c.delete-is_other.ensures.change

pub returns-clause-listed : goal.returns-clause-listed
returns-clause-listed g c =
    let copy : c.in_ok-clone.field-0 ≡ c.args.key.now = search rules in
    listed_if c.delete-is_other.result c.args.cache.now c.delete-is_other.new.self c.args.key.now taken_away c.args.changed.now c.list_if.new.keys c.delete-is_other.ensures.change c.delete-is_other.ensures.told
    (c.in_ok-list_if.ensures ∙ ap (λ key. if c.delete-is_other.result then c.args.changed.now ++ key ∷ [] else c.args.changed.now) copy)

pub returns-clause-theirs : goal.returns-clause-theirs
returns-clause-theirs g c all =
    let copy : c.in_ok-clone.field-0 ≡ c.args.key.now = search rules in
    of_if c.delete-is_other.result c.args.response.now.authority c.args.response.now.kind c.args.key.now c.args.changed.now c.list_if.new.keys
    (gone_theirs (told_as (delivered_in c.args.response.now)) c.args.key.now (fate_of c.args.cache.now c.args.key.now)
    (ap (λ known. is_let_go (told_as (delivered_in c.args.response.now)) c.args.key.now known) (sym c.get.ensures.fate) ∙ sym c.is_let_go.ensures ∙ c.if-not-is_let_go.false))
    (c.in_ok-list_if.ensures ∙ ap (λ key. if c.delete-is_other.result then c.args.changed.now ++ key ∷ [] else c.args.changed.now) copy) all
