-- Canonical names.
use Rattle.std.proofs.Common.{◌≡◌, ℕ, List, ◌∷◌, ◌++◌, true, Option, Some, None, ap, ◌∙◌}
use Rattle.std.specs.List.{join_with_byte}
use Rattle.std.specs.Prelude.{is_some}
use Rattle.xds_name.specs.Names.{parts_of, canonical_of}
use Rattle.xds_name.specs.Parameters.{in_order}
use Rattle.xds_name.specs.NameTexts.{cut_at, parts_at}
use Rattle.xds_name.specs.NameViews.{seen_parts}
use Rattle.xds_name.specs.declared.name_parts.Parts.{Parts}

-- a name that has the form and parameters
pub sorted_name : (found : Option Parts) (text head parameters joined name : List ℕ) → seen_parts found ≡ parts_of text → is_some found ≡ true → Some (head, parameters) ≡ cut_at 63 text
    → name ≡ head ++ 63 ∷ joined → joined ≡ join_with_byte 38 (in_order (parts_at 38 parameters)) → name ≡ canonical_of text
unfolding canonical_of
sorted_name None text head parameters joined name seen has cut is sorted = absurd (cc)
sorted_name (Some p) text head parameters joined name seen has cut is sorted =
    rw (← seen, ← cut) (is ∙ ap (λ ps. head ++ 63 ∷ ps) sorted)
