-- Which texts a pattern meets: those of which its anchored form matches all (the `regex` crate).
use Rattle.std.specs.Prelude.{ℕ, List, ◌++◌, Bool, false, codes, Option, Some, None, is_some, chars}
use Rattle.regex.specs.Patterns.{find_str, default_config}
use Rattle.regex_syntax.specs.Grammar.{read, Names}
use Rattle.regex_syntax.specs.Brackets.{Nested}
use Rattle.regex_hir.specs.Re.{Re}

-- the pattern, from the start of a text to its end
unfoldable pub anchored : List ℕ → List ℕ
anchored pattern = codes "\\A(?:" ++ (pattern ++ codes ")\\z")

-- what was read as a pattern is found in the text
abbrev pub is_found : Option (Nested Re × Names) → List ℕ → Bool
is_found None text = false
is_found (Some r) text = is_some (find_str r.0.value text 0)

-- the anchored pattern is one, and is found in the text
unfoldable pub meets : List ℕ → List ℕ → Bool
meets pattern text = is_found (read default_config (chars (anchored pattern))) text
