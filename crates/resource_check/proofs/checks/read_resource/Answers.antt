use Rattle.std.proofs.Common.{◌≡◌, ◌≢◌, []}
use Rattle.std.proofs.lemmas.Result.{err_from_is_err_and}
use Rattle.resource_check.specs.Resources.{raw_kind}
use Rattle.resource_check.proofs.FoundLemmas.{found_stops, when_ok}
use Rattle.resource_check.proofs.checks.read_resource.Goals as goal

pub returns-in_err-name-clause-value : goal.returns-in_err-name-clause-value
returns-in_err-name-clause-value c =
    let p = err_from_is_err_and c.from_residual-in_err-name.result c.from_residual-in_err-name.ensures.1 in
    rw (p.1, p.2)
    (found_stops c.args.kind c.args.any.now c.in_ok-resource.resource c.in_ok-given.given c.in_ok-shown.shown c.in_ok-raw.raw c.in_err-name.field-0.0
    (c.in_ok-resource.ensures.answers _ c.inner_resource.ensures) c.in_ok-given.ensures.name c.in_ok-shown.ensures (c.in_ok-raw.ensures.answers _ c.message.ensures.value) (c.in_err-name.ensures.answers _ c.name_of.ensures.value))

pub returns-clause-name : goal.returns-clause-name
returns-clause-name c = when_ok c.name_of.result (λ n. n ≢ []) c.in_ok-name.name c.in_ok-name.ensures.given (c.name_of.ensures.some c.in_ok-given.ensures.some)

pub returns-clause-kind : goal.returns-clause-kind
returns-clause-kind c = when_ok c.message.result (λ raw. raw_kind raw ≡ c.args.kind) c.in_ok-raw.raw c.in_ok-raw.ensures.given c.message.ensures.kind
