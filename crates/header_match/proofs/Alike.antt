-- Two patterns that give a caller the same matches are found in the same texts.
use Rattle.std.proofs.Common.{◌≡◌, ℕ, zero, suc, ◌+◌, ◌<◌, List, length, Bool, true, false, cond, Option, Some, None, refl, sym, ap, ◌∙◌}
use Rattle.std.specs.Prelude.{All, is_some, option_map}
use Rattle.std.specs.Option.{option_or}
use Rattle.std.specs.Prelude.{chars, IsSomeAnd, ◌≤◌}
use Rattle.regex.specs.Patterns.{Re, find_str, Reads, Config}
use Rattle.regex_syntax.specs.Grammar.{read, Names, group_count}
use Rattle.regex_syntax.specs.Brackets.{Nested}
use Rattle.regex_hir.specs.Meaning.{meaning}
use Rattle.regex_hir.specs.declared.hir.Hir.{Hir}
use Rattle.header_match.specs.Meets.{is_found}
use Rattle.regex_hir.specs.Re.{Trace, Rest, attempt, accept}
use Rattle.regex_hir.specs.Text.{is_boundary}
use Rattle.regex_hir.specs.Find.{first_from}
use Rattle.regex_syntax.specs.Captures.{SameCaptures, outcome}

some_outcome : (o : Option Trace) → is_some (outcome o) ≡ is_some o
unfolding outcome
some_outcome None = refl
some_outcome (Some t) = refl

some_or : {X : Type 0} (a b : Option X) (c d : Option X) → is_some a ≡ is_some c → is_some b ≡ is_some d → is_some (option_or a b) ≡ is_some (option_or c d)
some_or None b None d p q = q
some_or None b (Some c) d p q = cc
some_or (Some a) b None d p q = cc
some_or (Some a) b (Some c) d p q = refl

some_map : {X Y : Type 0} (f : X → Y) (o : Option X) → is_some (option_map f o) ≡ is_some o
some_map f None = refl
some_map f (Some x) = refl

first_alike : (a b : Rest) (n i : ℕ) → ((j : ℕ) → is_some (a j) ≡ is_some (b j)) → is_some (first_from a n i) ≡ is_some (first_from b n i)
unfolding first_from
first_alike a b zero i same = refl
first_alike a b (suc n) i same =
    some_or _ _ _ _ (some_map _ (a i) ∙ (same i ∙ sym (some_map _ (b i)))) (first_alike a b n (i + 1) same)

at_alike : (a b : Re) → SameCaptures a b → (hay : List ℕ) → All (λ x. x < 256) hay → (here : Bool) (j : ℕ)
    → is_some (cond here (attempt hay a accept j) None) ≡ is_some (cond here (attempt hay b accept j) None)
at_alike a b alike hay ok true j =
    sym (some_outcome (attempt hay a accept j)) ∙ (ap is_some (alike.at hay ok accept j) ∙ some_outcome (attempt hay b accept j))
at_alike a b alike hay ok false j = refl

pub found_alike : (a b : Re) → SameCaptures a b → (hay : List ℕ) → All (λ x. x < 256) hay → is_some (find_str a hay 0) ≡ is_some (find_str b hay 0)
unfolding find_str
found_alike a b alike hay ok = first_alike _ _ _ 0 (λ j. at_alike a b alike hay ok (is_boundary hay j) j)

by_reading : (o : Option (Nested Re × Names)) (hir : Hir) (names : Names) (limit : ℕ) (text : List ℕ) → All (λ x. x < 256) text
    → IsSomeAnd o (λ (re, found). (re.depth ≤ limit) × SameCaptures (meaning hir) re.value × (names ≡ found) × (group_count (meaning hir) ≤ length names))
    → is_some (find_str (meaning hir) text 0) ≡ is_found o text
by_reading None hir names limit text ok h = absurd h
by_reading (Some r) hir names limit text ok h = found_alike (meaning hir) r.0.value h.1 text ok

pub read_is_found : (config : Config) (source text : List ℕ) (hir : Hir) (names : Names) → All (λ x. x < 256) text → Reads config source hir names
    → is_some (find_str (meaning hir) text 0) ≡ is_found (read config (chars source)) text
unfolding Reads
read_is_found config source text hir names ok h = by_reading (read config (chars source)) hir names config.nest_limit text ok h
