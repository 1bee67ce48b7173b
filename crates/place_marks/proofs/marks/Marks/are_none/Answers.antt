use Rattle.std.proofs.Common.{ℕ, Bool, length, ap, ◌∙◌}
use Rattle.std.specs.Prelude.{List, not, ◌==◌}
use Rattle.std.specs.List.{list_any}
use Rattle.place_marks.proofs.MarkLemmas.{any_marked}
use Rattle.place_marks.proofs.marks.Marks.are_none.Goals as goal

pub returns : goal.returns
returns c =
    c.is_empty.ensures
    ∙ ap (λ (places : List ℕ). length places == 0) c.as_slice.ensures.value
    ∙ any_marked c.self.inside.count c.self.inside.places.items c.self.invariant.within
    ∙ ap (λ (ms : List Bool). not (list_any (λ (mark : Bool). mark) ms)) c.self.view_is
