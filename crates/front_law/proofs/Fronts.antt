-- Texts that begin with others.
use Rattle.std.proofs.Common.{ℕ, List, [], ◌++◌, sym, ap, ◌∙◌, append_assoc, refl}
use Rattle.front_law.specs.FrontLaw.{IsFrontOf}

-- nothing begins each text
pub front_nothing : (text : List ℕ) → IsFrontOf [] text
front_nothing text = record { rest = text; begins = refl }

-- whatever stands behind a text
pub front_more : (front text behind : List ℕ) → IsFrontOf front text → IsFrontOf front (text ++ behind)
front_more front text behind f = record {
  rest = f.rest ++ behind;
  begins = ap (λ (t : List ℕ). t ++ behind) f.begins ∙ append_assoc front f.rest behind;
}

-- and whatever stands before both
pub front_behind : (before front text : List ℕ) → IsFrontOf front text → IsFrontOf (before ++ front) (before ++ text)
front_behind before front text f = record {
  rest = f.rest;
  begins = ap (λ (t : List ℕ). before ++ t) f.begins ∙ sym (append_assoc before front f.rest);
}

-- the fronts of a front are fronts
pub front_of_front : (one front text : List ℕ) → IsFrontOf one front → IsFrontOf front text → IsFrontOf one text
front_of_front one front text f g = record {
  rest = f.rest ++ g.rest;
  begins = g.begins ∙ (ap (λ (t : List ℕ). t ++ g.rest) f.begins ∙ append_assoc one f.rest g.rest);
}
