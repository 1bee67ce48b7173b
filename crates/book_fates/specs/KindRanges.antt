-- Keys by the place of their kind.
use Rattle.std.specs.Prelude.{ℕ, Bool, leb, ltb}
use Rattle.xc_base.specs.declared.names.Key.{Key}
use Rattle.xc_keys.specs.Keys.{kind_place}

-- its kind stands before this place
abbrev pub is_below : ℕ → Key → Bool
is_below place key = ltb (kind_place key.kind) place

-- its kind stands at this place or before it
abbrev pub is_upto : ℕ → Key → Bool
is_upto place key = leb (kind_place key.kind) place
