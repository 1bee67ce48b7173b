use Rattle.std.proofs.Common.{length, sym, ap, ◌∙◌}
use Rattle.place_marks.proofs.MarkLemmas.{length_marks}
use Rattle.dep_manager.proofs.mark_sets.MarkSet.len.Goals as goal

pub returns-clause-count : goal.returns-clause-count
returns-clause-count c = sym (length_marks c.self.inside.count c.self.inside.places.keys) ∙ ap length c.self.view_is
