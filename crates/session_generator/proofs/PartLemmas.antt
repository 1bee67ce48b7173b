-- The parts of a line, joined from the left or from the right.
use Rattle.std.proofs.Common.{◌≡◌, ℕ, List, ◌++◌, ◌∙◌, append_assoc}

pub four_parts : (a b c d : List ℕ) → ((a ++ b) ++ c) ++ d ≡ a ++ (b ++ (c ++ d))
four_parts a b c d = append_assoc (a ++ b) c d ∙ append_assoc a b (c ++ d)

pub eight_parts : (a b c d e f g h : List ℕ) → ((((((a ++ b) ++ c) ++ d) ++ e) ++ f) ++ g) ++ h ≡ a ++ (b ++ (c ++ (d ++ (e ++ (f ++ (g ++ h))))))
eight_parts a b c d e f g h = four_parts ((((a ++ b) ++ c) ++ d) ++ e) f g h ∙ (four_parts ((a ++ b) ++ c) d e (f ++ (g ++ h)) ∙ four_parts a b c (d ++ (e ++ (f ++ (g ++ h)))))
