use Rattle.std.proofs.Common.{◌≡◌, ℕ, ap, ◌∙◌, []}
use Rattle.std.specs.Prelude.{unwrap_or}
use Rattle.dep_manager.specs.LeafPlaces.{has_leaf, has_place}
use Rattle.dep_manager.proofs.PlaceLemmas.{places_within}
use Rattle.dep_manager.proofs.leaf_sources.LeafSources.places_of.Goals as goal

listed : (c : goal.After-as_slice) (at : ℕ) → has_place c.as_slice.result.now at ≡ has_leaf c.args.self.now c.args.key.now at
listed c at =
    ap (λ places. has_place places at) c.as_slice.ensures
    ∙ ap (λ o. has_place (unwrap_or o []) at) c.in-Some.ensures
    ∙ c.self.invariant.0 c.args.key.now at
    ∙ ap (λ keys. has_leaf keys c.args.key.now at) c.self.view_is

pub returns-in-Some-clause-listed : goal.returns-in-Some-clause-listed
returns-in-Some-clause-listed c = listed c

pub returns-in-Some-clause-within : goal.returns-in-Some-clause-within
returns-in-Some-clause-within c = places_within c.args.key.now c.args.self.now c.as_slice.result.now (listed c)

pub returns-in-None-clause-listed : goal.returns-in-None-clause-listed
returns-in-None-clause-listed c at =
    ap (λ o. has_place (unwrap_or o []) at) c.in-None.ensures
    ∙ c.self.invariant.0 c.args.key.now at
    ∙ ap (λ keys. has_leaf keys c.args.key.now at) c.self.view_is
