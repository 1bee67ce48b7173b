use Rattle.std.proofs.Common.{◌≡◌, ◌<◌, ◌||◌, ◌∙◌, ℕ, Bool, List, false, get_or, length, sym, ap, subst}
use Rattle.place_marks.specs.Marks.{marks_of}
use Rattle.place_marks.proofs.MarkLemmas.{length_marks}
use Rattle.dep_manager.specs.LeafPlaces.{has_place}
use Rattle.dep_manager.proofs.MarkSetLemmas.{marks_with}
use Rattle.dep_manager.proofs.mark_sets.MarkSet.with.Goals as goal

pub returns-clause-count : goal.returns-clause-count
returns-clause-count c = length_marks c.self.inside.count c.in_ok-places.places.keys ∙ sym (length_marks c.self.inside.count c.self.inside.places.keys) ∙ ap length c.self.view_is

pub returns-clause-set : goal.returns-clause-set
returns-clause-set c =
    subst (λ (ms : List Bool). (at : ℕ) → at < length ms → get_or (marks_of c.self.inside.count c.in_ok-places.places.keys) at false ≡ (get_or ms at false || has_place c.args.more.now at)) c.self.view_is
    (λ at lt. marks_with c.self.inside.count c.self.inside.places.keys c.in_ok-places.places.keys c.args.more.now at lt (c.in_ok-places.ensures at))
