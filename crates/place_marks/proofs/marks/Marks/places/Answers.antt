use Rattle.std.proofs.Common.{◌≡◌, ◌<◌, ℕ, Bool, true, false, List, length, get_or, sym, ap, subst, ◌∙◌}
use Rattle.std.specs.Prelude.{◌↔◌, All, Contains}
use Rattle.place_marks.specs.Marks.{marks_of}
use Rattle.place_marks.proofs.MarkLemmas.{length_marks, marked_is}
use Rattle.place_marks.proofs.marks.Marks.places.Goals as goal

pub returns-clause-within : goal.returns-clause-within
returns-clause-within c =
    subst (λ (n : ℕ). All (λ place. place < n) c.as_slice.result.now) (sym (length_marks c.self.inside.count c.self.inside.places.items) ∙ ap length c.self.view_is)
    (subst (λ (places : List ℕ). All (λ place. place < c.self.inside.count) places) (sym c.as_slice.ensures.value) c.self.invariant.within)

pub returns-clause-marked : goal.returns-clause-marked
returns-clause-marked c place =
    subst (λ (marks : List Bool). (get_or marks place false ≡ true) ↔ Contains c.as_slice.result.now place) c.self.view_is
    (subst (λ (places : List ℕ). (get_or (marks_of c.self.inside.count c.self.inside.places.items) place false ≡ true) ↔ Contains places place) (sym c.as_slice.ensures.value)
    (marked_is c.self.inside.count c.self.inside.places.items c.self.invariant.within place))
