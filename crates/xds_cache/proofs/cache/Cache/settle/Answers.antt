use Rattle.std.proofs.Common.{◌≡◌, ◌∙◌, None, Some, rules, subst, sym, ap}
use Rattle.std.specs.Prelude.{IsSome}
use Rattle.xc_keys.proofs.KeyLemmas.{found_alike, changed_alike}
use Rattle.xds_cache.specs.KeptFates.{Changes, IsLawfulAt, TellsChange, settled, known_of}
use Rattle.xds_cache.proofs.ChangeLemmas.{changes_to, stays, all_lawful, some_settled, none_settled, tells_other, tells_same, tells_settled}
use Rattle.xds_cache.proofs.cache.Cache.settle.Goals as goal

pub returns-in_default-clause-change : goal.returns-in_default-clause-change
returns-in_default-clause-change c =
    let same : c.get_mut.follows.lender-at-none.entries ≡ c.self.inside.known.entries = search rules in
    let none : known_of c.self.inside.known.entries c.args.key.now ≡ None = sym (found_alike c.args.key.now c.self.inside.known.entries) ∙ (search rules) in
    subst (λ keys. Changes c.args.self.now keys c.args.key.now (settled c.args.known)) (sym (same ∙ c.self.view_is))
    (stays c.self.inside.known.entries c.args.self.now c.args.key.now (settled c.args.known) c.self.view_is (none_settled _ c.args.known none))

pub returns-in_default-clause-told : goal.returns-in_default-clause-told
returns-in_default-clause-told c =
    let none : known_of c.self.inside.known.entries c.args.key.now ≡ None = sym (found_alike c.args.key.now c.self.inside.known.entries) ∙ (search rules) in
    subst (λ keys. TellsChange _ keys c.args.key.now (settled c.args.known)) c.self.view_is
    (tells_same c.self.inside.known.entries c.args.key.now (settled c.args.known) (none_settled _ c.args.known none))

pub invariant_of-self-then-same : goal.invariant_of-self-then-same
invariant_of-self-then-same c =
    let written = (c.get_mut.follows.holds c.in-Some.place.now).3 (search rules) in
    all_lawful c.self.inside.known.entries (c.get_mut.follows.lender c.in-Some.place.now).entries c.args.key.now (Some c.in-Some.place.now) c.self.invariant
    (changed_alike c.self.inside.known.entries (c.get_mut.follows.lender c.in-Some.place.now).entries c.args.key.now (Some c.in-Some.place.now) written.0)
    (subst (λ known. IsLawfulAt c.args.key.now known) (sym (c.same.ensures.0 c.if-same.true)) c.requires)

pub returns-then-same-clause-change : goal.returns-then-same-clause-change
returns-then-same-clause-change c =
    let written = (c.get_mut.follows.holds c.in-Some.place.now).3 (search rules) in
    let some : IsSome (known_of c.self.inside.known.entries c.args.key.now) = subst (λ o. IsSome o) (found_alike c.args.key.now c.self.inside.known.entries) (search rules) in
    changes_to c.self.inside.known.entries c.args.self.now (c.get_mut.follows.lender c.in-Some.place.now).entries c.args.key.now (settled c.args.known) (Some c.in-Some.place.now) c.self.view_is
    (some_settled _ c.args.known some ∙ ap (λ known. Some known) (sym (c.same.ensures.0 c.if-same.true)))
    (changed_alike c.self.inside.known.entries (c.get_mut.follows.lender c.in-Some.place.now).entries c.args.key.now (Some c.in-Some.place.now) written.0)

pub returns-then-same-clause-told : goal.returns-then-same-clause-told
returns-then-same-clause-told c =
    let here : known_of c.self.inside.known.entries c.args.key.now ≡ Some c.in-Some.place.now = sym (found_alike c.args.key.now c.self.inside.known.entries) ∙ (search rules) in
    subst (λ keys. TellsChange _ keys c.args.key.now (settled c.args.known)) c.self.view_is
    (tells_settled c.self.inside.known.entries c.args.key.now c.args.known (here ∙ ap (λ known. Some known) (c.same.ensures.0 c.if-same.true)))

pub invariant_of-self-2 : goal.invariant_of-self-2
invariant_of-self-2 c =
    let written = (c.get_mut.follows.holds c.replace-before.new.dest).3 (search rules) in
    let is : c.replace-before.new.dest ≡ c.args.known = search rules in
    all_lawful c.self.inside.known.entries (c.get_mut.follows.lender c.replace-before.new.dest).entries c.args.key.now (Some c.replace-before.new.dest) c.self.invariant
    (changed_alike c.self.inside.known.entries (c.get_mut.follows.lender c.replace-before.new.dest).entries c.args.key.now (Some c.replace-before.new.dest) written.0)
    (subst (λ known. IsLawfulAt c.args.key.now known) (sym is) c.requires)

pub returns-clause-change : goal.returns-clause-change
returns-clause-change c =
    let written = (c.get_mut.follows.holds c.replace-before.new.dest).3 (search rules) in
    let is : c.replace-before.new.dest ≡ c.args.known = search rules in
    let some : IsSome (known_of c.self.inside.known.entries c.args.key.now) = subst (λ o. IsSome o) (found_alike c.args.key.now c.self.inside.known.entries) (search rules) in
    changes_to c.self.inside.known.entries c.args.self.now (c.get_mut.follows.lender c.replace-before.new.dest).entries c.args.key.now (settled c.args.known) (Some c.replace-before.new.dest) c.self.view_is
    (some_settled _ c.args.known some ∙ ap (λ known. Some known) (sym is))
    (changed_alike c.self.inside.known.entries (c.get_mut.follows.lender c.replace-before.new.dest).entries c.args.key.now (Some c.replace-before.new.dest) written.0)

pub returns-clause-told : goal.returns-clause-told
returns-clause-told c =
    let here : known_of c.self.inside.known.entries c.args.key.now ≡ Some c.in-Some.place.now = sym (found_alike c.args.key.now c.self.inside.known.entries) ∙ (search rules) in
    subst (λ keys. TellsChange _ keys c.args.key.now (settled c.args.known)) c.self.view_is
    (tells_other c.self.inside.known.entries c.args.key.now c.in-Some.place.now c.args.known here (λ same. sym (c.same.ensures.1 same) ∙ c.if-same.false))
