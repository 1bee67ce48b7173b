use Rattle.std.proofs.Common.{sym, ◌∙◌, ap, refl}
use Rattle.std.specs.Prelude.{bytes_eq, position}
use Rattle.xds_config.specs.declared.config.ClusterEntry.{ClusterEntry}
use Rattle.xds_config.proofs.PlaceLemmas.{some_named, none_named}
use Rattle.xds_config.proofs.HalvesLemmas.{place_found, place_missed}
use Rattle.xds_config.proofs.ordered_clusters.Clusters.find.Goals as goal

pub returns-then-is_named-clause-place : goal.returns-then-is_named-clause-place
returns-then-is_named-clause-place c =
    sym (place_found c.self.inside.items c.args.name.now c.place_for-place.result c.place_for-place.ensures (c.is_named.ensures.0 c.if-is_named.true)) ∙ ap (position (λ (x : ClusterEntry). bytes_eq x.name c.args.name.now)) c.self.view_is

pub returns-then-is_named-clause-none : goal.returns-then-is_named-clause-none
returns-then-is_named-clause-none c = (λ h. absurd (cc), λ none. absurd (some_named c.args.self.now c.args.name.now c.place_for-place.result (returns-then-is_named-clause-place c) none))

pub returns-else-is_named-clause-place : goal.returns-else-is_named-clause-place
returns-else-is_named-clause-place c =
    sym (place_missed c.self.inside.items c.args.name.now c.place_for-place.result c.self.invariant c.place_for-place.ensures (λ same. let is = c.is_named.ensures.1 same in absurd (cc))) ∙ ap (position (λ (x : ClusterEntry). bytes_eq x.name c.args.name.now)) c.self.view_is

pub returns-else-is_named-clause-none : goal.returns-else-is_named-clause-none
returns-else-is_named-clause-none c = (λ h. none_named c.args.self.now c.args.name.now (sym (returns-else-is_named-clause-place c)), λ none. refl)
