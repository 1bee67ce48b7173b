-- What is lent, as values.
use Rattle.std.specs.Prelude.{ℕ, List, Option, option_map, map, String}
use Rattle.std.specs.Borrow.{Bor}
use Rattle.std.specs.declared.alloc.Global.{Global}
use Rattle.serde_json.specs.Data.{Data, Members}
use Rattle.serde_json.specs.View.{view, members_of}
use Rattle.serde_json.specs.declared.value.Value.{Value}

abbrev pub seen_value : Option (Bor Value) → Option Data
seen_value found = option_map (λ v. view v.now) found

abbrev pub seen_text : Option (Bor (List ℕ)) → Option (List ℕ)
seen_text found = option_map (λ t. t.now) found

-- members that are lent one by one
abbrev pub seen_members : List (Bor (String Global) × Bor Value) → Members
seen_members pairs = members_of (map (λ p. (p.0.now, view p.1.now)) pairs)
