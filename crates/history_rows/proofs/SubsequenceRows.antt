-- Which texts stand in order among others, each row with the wrong word of the definition that it catches.
use Rattle.std.proofs.Common.{◌≡◌, refl, sym, ap, ℕ, List, [], ◌∷◌, length, inl, inr, arith}
use Rattle.check_steps.specs.Asking.{IsSubsequence}

-- the texts `(` and `[`
abbrev a : List ℕ
a = 40 ∷ []

abbrev b : List ℕ
b = 91 ∷ []

-- two `(`
abbrev twice : List ℕ
twice = 40 ∷ 40 ∷ []

abbrev first : List ℕ → ℕ
first [] = 0
first (character ∷ text) = character

apart : a ≡ b → ⊥
apart same = let characters : 40 ≡ 91 = ap first same in absurd (omega (arith, characters))

longer : a ≡ twice → ⊥
longer same = let lengths : 1 ≡ 2 = ap length same in absurd (omega (arith, lengths))

-- ---- what isn't among others: all of these are seen where `IsSubsequence _ _ = Unit`

-- where any member stands for another, or one as long
another_text : IsSubsequence (a ∷ []) (b ∷ []) → ⊥
another_text (inl here) = apart here.0
another_text (inr later) = later

-- where the first character alone counts
a_longer_text : IsSubsequence (a ∷ []) (twice ∷ []) → ⊥
a_longer_text (inl here) = longer here.0
a_longer_text (inr later) = later

-- where the order doesn't count
another_order : IsSubsequence (a ∷ b ∷ []) (b ∷ a ∷ []) → ⊥
another_order (inl here) = apart here.0
another_order (inr (inl here)) = here.1
another_order (inr (inr later)) = later

-- where one member stands for two
twice_for_once : IsSubsequence (a ∷ a ∷ []) (a ∷ []) → ⊥
twice_for_once (inl here) = here.1
twice_for_once (inr later) = later

-- where `IsSubsequence (x ∷ xs) [] = Unit`
among_none : IsSubsequence (a ∷ []) [] → ⊥
among_none is = is

-- where the rest needn't be among the rest
the_second_is_missing : IsSubsequence (a ∷ b ∷ []) (a ∷ a ∷ []) → ⊥
the_second_is_missing (inl (same, inl here)) = apart (sym here.0)
the_second_is_missing (inl (same, inr later)) = later
the_second_is_missing (inr (inl here)) = here.1
the_second_is_missing (inr (inr later)) = later

-- ---- what is among others: seen where `IsSubsequence _ _ = ⊥`

-- where only a beginning is among a list
behind_another : IsSubsequence (a ∷ []) (b ∷ a ∷ [])
behind_another = inr (inl (refl, tt))

-- where only the end of a list, or what stands together, is among it
before_and_behind : IsSubsequence (a ∷ a ∷ []) (a ∷ b ∷ a ∷ b ∷ [])
before_and_behind = inl (refl, inr (inl (refl, tt)))

-- where a list isn't among itself, with a member that it has twice
the_whole : IsSubsequence (a ∷ b ∷ a ∷ []) (a ∷ b ∷ a ∷ [])
the_whole = inl (refl, inl (refl, inl (refl, tt)))

-- where none of some texts is no list of theirs: `IsSubsequence [] (y ∷ ys) = ⊥`
none_among_some : IsSubsequence [] (a ∷ b ∷ [])
none_among_some = tt

-- where a list without texts isn't among itself: `IsSubsequence [] [] = ⊥`
none_among_none : IsSubsequence [] []
none_among_none = tt
