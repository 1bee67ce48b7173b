use Rattle.std.proofs.Common.{ap, ◌∙◌}
use Rattle.std.specs.List.{flat_map}
use Rattle.config_assembly.specs.Orders.{name_cmp, put_in, sorted}
use Rattle.config_assembly.specs.Reach.{aggregates, children_among}
use Rattle.config_assembly.specs.DepsViews.{seen}
use Rattle.config_assembly.proofs.OrderLemmas.{put_level}
use Rattle.config_assembly.proofs.reach.on_chains.Goals as goal

pub loop-preserved : goal.loop-preserved
loop-preserved g c =
    put_level (aggregates (seen c.args.sight)) c.loop.counter c.loop.names.keys c.put_names.new.names.keys c.loop.level c.in_ok-level-2.level _ c.loop-test.true
    (c.in_ok-put_names.ensures ∙ ap (put_in name_cmp c.loop.names.keys) c.as_slice.ensures)
    (c.in_ok-level-2.ensures ∙ ap (λ l. sorted name_cmp (flat_map (children_among (aggregates (seen c.args.sight))) l)) c.as_slice-in-loop.ensures)
    c.loop.invariant
