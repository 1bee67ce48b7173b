-- What a pick chooses (gRPC's drop policy, weighted_target and round_robin, with this project's own draws).
use Rattle.std.specs.Prelude.{◌≡◌, ℕ, ◌+◌, ◌<◌, ◌^◌, if◌then◌else◌, List, [], ◌∷◌, map, length, All, Option, Some, None}
use Rattle.xc_base.specs.Draws.{draw}
use Rattle.weight_pick.specs.declared.fraction.DropRule.{DropRule}
use Rattle.weight_pick.specs.Fractions.{fraction_met}
use Rattle.weight_pick.specs.Weights.{cumulated, place_by_weight, AreWeights}
use Rattle.weighted_lb.specs.declared.picker.Part.{Part as OnePart}
use Rattle.weighted_lb.specs.declared.picker.Picker.{Picker}
use Rattle.weighted_lb.specs.declared.picker.PickBody.{PickBody}
use Rattle.weighted_lb.specs.declared.picker.PickBody.TheVariants as body
use Rattle.weighted_lb.specs.declared.picker.Chosen.{Chosen}
use Rattle.weighted_lb.specs.declared.picker.Chosen.TheVariants as chosen

abbrev pub weights_of : List OnePart → List ℕ
weights_of parts = map (λ part. part.weight) parts

-- a picker with these drop rules and these READY localities
abbrev pub picker_of : List DropRule → List OnePart → Picker
picker_of drops parts = record { drops = drops; body = body.Ready parts (cumulated (weights_of parts)) }

-- parts by whose weights one can be chosen, with their cumulated weights
pub record AreParts (parts : List OnePart) (sums : List ℕ) : Type 0 where
  pub cumulate : sums ≡ cumulated (weights_of parts)
  pub sound : AreWeights (weights_of parts)
  pub few : length parts < 2 ^ 31

-- parts and sums that `make_picker` gives
abbrev pub IsMade : PickBody → Type 0
IsMade (body.Ready parts sums) = AreParts parts sums
IsMade body.Queue = Unit {0}
IsMade (body.Fail reason) = Unit {0}

-- a part has READY endpoints, which numbers of 32 bits can name
pub record HasEndpoints (part : OnePart) : Type 0 where
  pub some : 0 < length part.ready
  pub few : length part.ready < 2 ^ 32

abbrev pub HaveEndpoints : PickBody → Type 0
HaveEndpoints (body.Ready parts sums) = All HasEndpoints parts
HaveEndpoints body.Queue = Unit {0}
HaveEndpoints (body.Fail reason) = Unit {0}

-- what `choose` asks of a picker, and `endpoint` of its parts
pub record IsPickable (picker : Picker) : Type 0 where
  pub made : IsMade picker.body
  pub few : length picker.drops < 2 ^ 32
  pub endpoints : HaveEndpoints picker.body

-- the least of the rules that drops the pick, where the first of them has this number: rule j takes draw j
abbrev pub dropped_from : ℕ → ℕ → List DropRule → Option ℕ
dropped_from number word [] = None
dropped_from number word (rule ∷ rules) =
    if fraction_met rule.fraction (draw word number) then Some number else dropped_from (number + 1) word rules

-- behind the drop rules the locality is chosen by weight, with draw 0
abbrev pub body_choice : PickBody → ℕ → Chosen
body_choice (body.Ready parts sums) word = chosen.Part (place_by_weight (weights_of parts) (draw word 0))
body_choice body.Queue word = chosen.Queue
body_choice (body.Fail reason) word = chosen.Fail

abbrev pub choice_behind : Option ℕ → PickBody → ℕ → Chosen
choice_behind (Some rule) rest word = chosen.Drop rule
choice_behind None rest word = body_choice rest word

-- what a pick of this word chooses: the drop rules, numbered from 1, come first
abbrev pub choice : Picker → ℕ → Chosen
choice picker word = choice_behind (dropped_from 1 word picker.drops) picker.body word

abbrev pub IsPlaceOf : ℕ → PickBody → Type 0
IsPlaceOf place (body.Ready parts sums) = place < length parts
IsPlaceOf place body.Queue = ⊥
IsPlaceOf place (body.Fail reason) = ⊥

-- a part that is chosen is one of the body's
abbrev pub IsWithin : Chosen → PickBody → Type 0
IsWithin (chosen.Part place) rest = IsPlaceOf place rest
IsWithin (chosen.Drop rule) rest = Unit {0}
IsWithin chosen.Queue rest = Unit {0}
IsWithin chosen.Fail rest = Unit {0}
