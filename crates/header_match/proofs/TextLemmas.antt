-- The search for a part of a text.
use Rattle.std.proofs.Common.{◌≡◌, ℕ, ◌+◌, ◌<◌, ◌≤◌, List, length, drop, Bool, true, false, ◌||◌, eqb, sym, ap, ◌∙◌}
use Rattle.std.proofs.lemmas.List.{drop_more, drop_all}
use Rattle.header_match.specs.Texts.{begins_with, contains}

-- the part begins here, or further on
contains-drop : (no_case : Bool) (text part : List ℕ) (i : ℕ) → i < length text → contains no_case (drop i text) part ≡ (begins_with no_case (drop i text) part || contains no_case (drop (i + 1) text) part)
contains-drop no_case text part i lt =
    ap (λ (t : List ℕ). contains no_case t part) (drop_more text i 0 lt)
    ∙ ap (λ (t : List ℕ). begins_with no_case t part || contains no_case (drop (i + 1) text) part) (sym (drop_more text i 0 lt))

pub found_here : (no_case : Bool) (text rest part : List ℕ) (i : ℕ) (b : Bool) → i < length text → rest ≡ drop i text → b ≡ begins_with no_case rest part → b ≡ true → contains no_case text part ≡ contains no_case (drop i text) part → true ≡ contains no_case text part
found_here no_case text rest part i b lt is e found from =
    sym (from ∙ (contains-drop no_case text part i lt ∙ ap (λ (x : Bool). x || contains no_case (drop (i + 1) text) part) (ap (λ (t : List ℕ). begins_with no_case t part) (sym is) ∙ (sym e ∙ found))))

pub not_here : (no_case : Bool) (text rest part : List ℕ) (i : ℕ) (b : Bool) → i < length text → rest ≡ drop i text → b ≡ begins_with no_case rest part → b ≡ false → contains no_case text part ≡ contains no_case (drop i text) part → contains no_case text part ≡ contains no_case (drop (i + 1) text) part
not_here no_case text rest part i b lt is e found from =
    from ∙ (contains-drop no_case text part i lt ∙ ap (λ (x : Bool). x || contains no_case (drop (i + 1) text) part) (ap (λ (t : List ℕ). begins_with no_case t part) (sym is) ∙ (sym e ∙ found)))

pub found_at_end : (no_case : Bool) (text part : List ℕ) (i : ℕ) → length text ≤ i → contains no_case text part ≡ contains no_case (drop i text) part → contains no_case text part ≡ eqb (length part) 0
found_at_end no_case text part i le from = from ∙ ap (λ (t : List ℕ). contains no_case t part) (drop_all i text le)
