-- Choice by weight and by a fraction, computed by the definitions.
use Rattle.std.specs.Prelude.{◌≡◌, refl, [], ◌∷◌, map, true, false}
use Rattle.weight_pick.specs.Fractions.{fraction_met}
use Rattle.weight_pick.specs.Weights.{cumulated, place_by_weight}

-- the last sum is the greatest that there is
sums : cumulated (0 ∷ 1 ∷ 4294967294 ∷ []) ≡ 0 ∷ 1 ∷ 4294967295 ∷ []
sums = refl

-- a weight of 0 is never chosen, also not by the draw 0
weight_of_zero : map (place_by_weight (0 ∷ 1 ∷ 4294967294 ∷ [])) (0 ∷ 1 ∷ 2 ∷ 4294967295 ∷ []) ≡ 1 ∷ 1 ∷ 2 ∷ 2 ∷ []
weight_of_zero = refl

-- a quarter of the draws chooses the first: a draw whose number is its sum is the next one's
quarter : map (place_by_weight (1 ∷ 3 ∷ [])) (1073741823 ∷ 1073741824 ∷ 2654435769 ∷ 1013904242 ∷ 3668340012 ∷ []) ≡ 0 ∷ 1 ∷ 1 ∷ 0 ∷ 1 ∷ []
quarter = refl

-- half of the draws, from 0
half : map (fraction_met record { n = 50; of = 100; known = refl }) (2147483647 ∷ 2147483648 ∷ []) ≡ true ∷ false ∷ []
half = refl

one_of_a_million : map (fraction_met record { n = 1; of = 1000000; known = refl }) (4294 ∷ 4295 ∷ []) ≡ true ∷ false ∷ []
one_of_a_million = refl

-- a fraction above the whole takes all draws, and one of nothing takes none
all : fraction_met record { n = 200; of = 100; known = refl } 4294967295 ≡ true
all = refl

nothing : fraction_met record { n = 0; of = 100; known = refl } 0 ≡ false
nothing = refl
