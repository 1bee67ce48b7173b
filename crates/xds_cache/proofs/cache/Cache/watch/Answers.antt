use Rattle.std.proofs.Common.{◌≡◌, cond, None, Some, sym, ◌∙◌, ap, rules, subst}
use Rattle.std.specs.Prelude.{is_some}
use Rattle.xc_base.specs.declared.names.Key.{Key}
use Rattle.xc_keys.specs.Keys.{is_key}
use Rattle.xc_keys.proofs.KeyLemmas.{found_alike, changed_alike}
use Rattle.xds_cache.specs.KeptFates.{watched, known_of}
use Rattle.xds_cache.specs.declared.fate.Known.TheVariants.{Wanted}
use Rattle.xds_cache.proofs.ChangeLemmas.{changes_to, stays, all_lawful, watched_again, watched_first, is_some_none}
use Rattle.xds_cache.proofs.cache.Cache.watch.Goals as goal

pub invariant_of-self-then-not-contains_key : goal.invariant_of-self-then-not-contains_key
invariant_of-self-then-not-contains_key c =
    all_lawful c.self.inside.known.entries c.insert.new.self.entries c.in_ok-clone.field-0 (Some Wanted) c.self.invariant
    (changed_alike c.self.inside.known.entries c.insert.new.self.entries c.in_ok-clone.field-0 (Some Wanted) c.in_ok-before.ensures.updates.0) tt

pub returns-in_ok-before-clause-ok : goal.returns-in_ok-before-clause-ok
returns-in_ok-before-clause-ok c =
    let copy : c.in_ok-clone.field-0 ≡ c.args.key.now = search rules in
    let none : known_of c.self.inside.known.entries c.args.key.now ≡ None =
    sym (found_alike c.args.key.now c.self.inside.known.entries) ∙ is_some_none _ (sym c.contains_key.ensures ∙ c.if-not-contains_key.true) in
    changes_to c.self.inside.known.entries c.args.self.now c.insert.new.self.entries c.args.key.now watched (Some Wanted) c.self.view_is (watched_first _ none)
    (subst (λ k. (other : Key) → known_of c.insert.new.self.entries other ≡ cond (is_key k other) (Some Wanted) (known_of c.self.inside.known.entries other)) copy
    (changed_alike c.self.inside.known.entries c.insert.new.self.entries c.in_ok-clone.field-0 (Some Wanted) c.in_ok-before.ensures.updates.0))

pub returns-else-not-contains_key-clause-ok : goal.returns-else-not-contains_key-clause-ok
returns-else-not-contains_key-clause-ok c =
    stays c.self.inside.known.entries c.args.self.now c.args.key.now watched c.self.view_is
    (watched_again _ (sym (ap (λ o. is_some o) (found_alike c.args.key.now c.self.inside.known.entries)) ∙ sym c.contains_key.ensures ∙ c.if-not-contains_key.false))
