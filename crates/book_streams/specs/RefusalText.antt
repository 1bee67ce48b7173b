-- The text of a refusal, resource by resource.
use Rattle.std.specs.Prelude.{ℕ, ◌+◌, List, [], ◌∷◌, ◌++◌, codes, Bool, true, false, ◌||◌, not, Result, Ok, Err, is_ok}
use Rattle.xc_base.specs.declared.reason.Reason.{Reason}
use Rattle.xc_base.specs.Reasons.{reason_word}
use Rattle.xds_config.specs.declared.value.Value.{Value}
use Rattle.config_assembly.specs.Orders.{Name}
use Rattle.xds_history.specs.resource_check.declared.delivery.Delivery.{Delivery}
use Rattle.xds_history.specs.Requests.{name_text}

-- what stands before a refusal, where others were before it
abbrev pub behind : Bool → Name
behind true = codes "; "
behind false = []

abbrev pub is_refused : Delivery → Bool
is_refused part = not (is_ok part.result)

abbrev pub result_text : ℕ → Delivery → Bool → Result Value Reason → Name
result_text place part later (Ok value) = []
result_text place part later (Err reason) = behind later ++ (name_text place part.name ++ (codes ": " ++ reason_word reason))

abbrev pub part_text : ℕ → Delivery → Bool → Name
part_text place part later = result_text place part later part.result

abbrev pub parts_text : ℕ → Bool → List Delivery → Name
parts_text place later [] = []
parts_text place later (part ∷ parts) = part_text place part later ++ parts_text (place + 1) (later || is_refused part) parts
