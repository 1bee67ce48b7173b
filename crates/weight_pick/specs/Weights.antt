-- Choice by weight (gRFC A28, with this project's own draws).
use Rattle.std.specs.Prelude.{◌≡◌, ℕ, ◌+◌, ◌*◌, ◌/◌, ◌^◌, ◌<◌, List, [], ◌∷◌, length, map, sum, nat_lt, position, unwrap_or}

-- each weight with all before it: the first, the first two together, and so on
abbrev pub cumulated : List ℕ → List ℕ
cumulated [] = []
cumulated (w ∷ ws) = w ∷ map (λ s. w + s) (cumulated ws)

-- weights by which one can be chosen: their sum is 1 to 4,294,967,295
pub record AreWeights (weights : List ℕ) : Type 0 where
  pub some : 0 < sum weights
  pub below : sum weights < 2 ^ 32

-- the cumulated weights of such a list of fewer than 2 ^ 31
pub record AreSums (sums : List ℕ) : Type 0 where
  pub weights : List ℕ
  pub cumulate : sums ≡ cumulated weights
  pub sound : AreWeights weights
  pub few : length weights < 2 ^ 31

-- the least place whose cumulated weight is above the draw, which is brought to a number below the sum
abbrev pub place_by_weight : List ℕ → ℕ → ℕ
place_by_weight weights draw =
    unwrap_or (position (λ s. nat_lt (draw * sum weights / 2 ^ 32) s) (cumulated weights)) 0
