use Rattle.std.proofs.Common.{◌≡◌, ◌∙◌, List, Option, ap}
use Rattle.xc_base.specs.declared.names.Key.{Key}
use Rattle.xds_config.specs.declared.config.ClusterEntry.{ClusterEntry}
use Rattle.config_assembly.specs.DepsViews.{seen}
use Rattle.dep_manager.specs.KeptAssemblies.{sources_of}
use Rattle.dep_manager.proofs.PlaceLemmas.{mapped_next}
use Rattle.dep_manager.proofs.leaf_sources.keys_of_entries.Goals as goal

pub loop-place-preserved : goal.loop-place-preserved
loop-place-preserved g c =
    let f : ClusterEntry → List (Option Key) = λ entry. sources_of (seen c.args.sight) entry.state in
    let made : c.in_ok-sources_of.field-0 ≡ f c.at-entry.result.now = c.in_ok-sources_of.ensures ∙ ap f c.get.ensures in
    mapped_next f c.args.entries.now c.loop-place.keys c.push.new.self c.loop-place.place c.at-entry.result.now c.in_ok-sources_of.field-0 c.at-entry.ensures made c.in_ok-push.ensures.ok c.loop-place.invariant
