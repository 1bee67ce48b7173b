use Rattle.std.proofs.Common.{◌≡◌, ◌∙◌, length, ap, arith}
use Rattle.std.proofs.lemmas.List.{length-map}
use Rattle.config_assembly.specs.DepsViews.{seen}
use Rattle.dep_manager.specs.KeptAssemblies.{sources_of}
use Rattle.dep_manager.proofs.leaf_sources.sources_of_all.Goals as goal

pub of-requires : goal.of-requires
of-requires g c =
    let long : length c.in_ok-keys.keys ≡ length c.as_blocks-entries.result.now = ap length c.in_ok-keys.ensures ∙ length-map c.as_blocks-entries.result.now (λ entry. sources_of (seen c.args.sight) entry.state) in
    omega (arith, long, c.as_blocks-entries.ensures.few)
