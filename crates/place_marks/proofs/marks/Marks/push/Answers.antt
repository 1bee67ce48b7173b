use Rattle.std.proofs.Common.{◌<◌, ◌+◌, ◌^◌, ◌++◌, ◌∷◌, [], ℕ, Bool, true, false, List, length, sym, ap, subst, ◌∙◌, arith}
use Rattle.place_marks.specs.Marks.{marks_of, AreMarked}
use Rattle.place_marks.specs.declared.marks.Marks.TheInside.{Inside}
use Rattle.place_marks.proofs.MarkLemmas.{length_marks, unmarked_more, marked_more, are_marked_longer, are_marked_pushed}
use Rattle.place_marks.proofs.marks.Marks.push.Goals.{then-mark+in_ok-push, else-mark}
use Rattle.place_marks.proofs.marks.Marks.push.Goals as goal

pub overflow_cast-self-inside : goal.overflow_cast-self-inside
overflow_cast-self-inside c = omega (arith, c.requires, ap length c.self.view_is, length_marks c.self.inside.count c.self.inside.places.items)

pub invariant_of-self-2 : goal.invariant_of-self-2
invariant_of-self-2 c =
    let few : c.self.inside.count < 2 ^ 32 = omega (arith, c.requires, ap length c.self.view_is, length_marks c.self.inside.count c.self.inside.places.items) in
    elim c.if-mark.branch [
      | then-mark+in_ok-push w ↦
          subst (λ (inside : Inside). AreMarked (inside.count + 1) inside.places.items) (sym w.self-inside-is)
          (subst (λ (places : List ℕ). AreMarked (c.self.inside.count + 1) places) (sym w.in_ok-push.ensures.items) (are_marked_pushed c.self.inside.count c.self.inside.places.items c.self.invariant few))
      | else-mark w ↦
          subst (λ (inside : Inside). AreMarked (inside.count + 1) inside.places.items) (sym w.self-inside-is) (are_marked_longer c.self.inside.count c.self.inside.places.items c.self.invariant few)
    ]

pub returns-clause-pushed : goal.returns-clause-pushed
returns-clause-pushed c =
    elim c.if-mark.branch [
      | then-mark+in_ok-push w ↦
          ap (λ (inside : Inside). marks_of (inside.count + 1) inside.places.items) w.self-inside-is
          ∙ ap (λ (places : List ℕ). marks_of (c.self.inside.count + 1) places) w.in_ok-push.ensures.items
          ∙ marked_more c.self.inside.count c.self.inside.places.items c.self.invariant.within
          ∙ ap (λ (marks : List Bool). marks ++ true ∷ []) c.self.view_is
          ∙ ap (λ (mark : Bool). c.args.self.now ++ mark ∷ []) (sym w.if-mark.true)
      | else-mark w ↦
          ap (λ (inside : Inside). marks_of (inside.count + 1) inside.places.items) w.self-inside-is
          ∙ unmarked_more c.self.inside.count c.self.inside.places.items c.self.invariant.within
          ∙ ap (λ (marks : List Bool). marks ++ false ∷ []) c.self.view_is
          ∙ ap (λ (mark : Bool). c.args.self.now ++ mark ∷ []) (sym w.if-mark.false)
    ]
