-- Rows of keys and values.
use Rattle.std.specs.Prelude.{ℕ, List, Option, option_map, slice_get}
use Rattle.xc_base.specs.declared.names.Key.{Key}

-- the value of the row at a place, from 0
abbrev pub value_at : {V : Type 0} → List (Key × V) → ℕ → Option V
value_at rows place = option_map (λ row. row.1) (slice_get rows place)
