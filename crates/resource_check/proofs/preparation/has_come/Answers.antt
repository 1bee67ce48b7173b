use Rattle.std.proofs.Common.{◌≡◌, ◌||◌, ℕ, List, Some, subst}
use Rattle.check_steps.specs.Sets.{has}
use Rattle.check_routes.proofs.HostLemmas.{gained}
use Rattle.resource_check.specs.Deliveries.{is_name}
use Rattle.resource_check.proofs.preparation.has_come.Goals as goal

pub returns-in_ok-is_new-in-Some-clause-names : goal.returns-in_ok-is_new-in-Some-clause-names
returns-in_ok-is_new-in-Some-clause-names c = λ other.
    let P : List ℕ → Type 0 = λ n. has c.insert.new.self other ≡ (is_name (Some n) other || has c.args.names.now other) in
    let came : P c.in_ok-clone-in-Some.field-0 =
    gained c.in_ok-clone-in-Some.field-0 other (has c.args.names.now other) (has c.insert.new.self other) (c.in_ok-is_new-in-Some.ensures.updates.0 other) in
    rw c.in-Some.is (subst P c.in_ok-clone-in-Some.ensures.cases came)
