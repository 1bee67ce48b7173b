use Rattle.std.proofs.Common.{◌∙◌, ap}
use Rattle.dep_manager.specs.RenewedConfigs.{joined_marks}
use Rattle.dep_manager.proofs.MarkSetLemmas.{marks_joined}
use Rattle.dep_manager.proofs.mark_sets.MarkSet.joined.Goals as goal

pub returns : goal.returns
returns c =
    marks_joined c.self.inside.count c.args.count c.min.result c.self.inside.places.keys c.in_ok-places.places.keys c.places.result.now c.args.told.now c.min.ensures c.requires c.in_ok-places.ensures c.places.ensures.marked
    ∙ ap (λ ms. joined_marks ms c.args.told.now) c.self.view_is
