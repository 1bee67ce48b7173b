use Rattle.std.proofs.Common.{◌≡◌, ◌<◌, ◌≤◌, ℕ, Bool, true, false, List, length, get_or, set, sym, ap, subst, ◌∙◌, arith}
use Rattle.place_marks.specs.Marks.{marks_of, AreMarked}
use Rattle.place_marks.proofs.MarkLemmas.{length_marks, are_marked_more, marks_more}
use Rattle.place_marks.proofs.marks.Marks.mark.Goals as goal

pub invariant_of-self-2 : goal.invariant_of-self-2
invariant_of-self-2 c =
    let within : c.args.place < c.self.inside.count = omega (arith, c.requires.within, ap length c.self.view_is, length_marks c.self.inside.count c.self.inside.places.items) in
    subst (λ (places : List ℕ). AreMarked c.self.inside.count places) (sym c.in_ok-push.ensures.items)
    (are_marked_more c.self.inside.count c.self.inside.places.items c.args.place c.self.invariant within
    (subst (λ (marks : List Bool). (later : ℕ) → c.args.place ≤ later → get_or marks later false ≡ false) (sym c.self.view_is) c.requires.last))

pub returns-clause-marked : goal.returns-clause-marked
returns-clause-marked c =
    ap (λ (places : List ℕ). marks_of c.self.inside.count places) c.in_ok-push.ensures.items
    ∙ marks_more c.self.inside.count c.self.inside.places.items c.args.place
    ∙ ap (λ (marks : List Bool). set marks c.args.place true) c.self.view_is
