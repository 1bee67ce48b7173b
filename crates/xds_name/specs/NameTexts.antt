-- Parts of texts.
use Rattle.std.specs.Prelude.{ℕ, ◌+◌, ◌==◌, List, take, drop, length, Bool, not, if◌then◌else◌, Option, Some, None, option_map}
use Rattle.std.specs.Borrow.{Bor}
use Rattle.std.specs.List.{list_any, position, slice_split}
use Rattle.std.specs.Str.{bytes_eq}

abbrev pub lacks : ℕ → List ℕ → Bool
lacks byte text = not (list_any (λ b. b == byte) text)

-- what stands before and after the first such byte
abbrev pub cut_at : ℕ → List ℕ → Option (List ℕ × List ℕ)
cut_at byte text = option_map (λ i. (take i text, drop (i + 1) text)) (position (λ b. b == byte) text)

-- the parts between such bytes
abbrev pub parts_at : ℕ → List ℕ → List (List ℕ)
parts_at byte text = slice_split (λ b. b == byte) text

-- what stands after these bytes, where the text begins with them
abbrev pub after : List ℕ → List ℕ → Option (List ℕ)
after prefix text = if bytes_eq (take (length prefix) text) prefix then Some (drop (length prefix) text) else None

-- what is lent, as values
abbrev pub seen : Option (Bor (List ℕ)) → Option (List ℕ)
seen found = option_map (λ x. x.now) found

abbrev pub seen_pair : Option (Bor (List ℕ) × Bor (List ℕ)) → Option (List ℕ × List ℕ)
seen_pair found = option_map (λ x. (x.0.now, x.1.now)) found
