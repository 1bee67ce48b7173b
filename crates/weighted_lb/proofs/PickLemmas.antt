-- A body whose parts have the sums that belong to them.
use Rattle.std.proofs.Common.{◌≡◌, ◌<◌, ℕ, List, length, ap, ◌∙◌}
use Rattle.std.proofs.lemmas.List.{length-map}
use Rattle.weight_pick.specs.Weights.{cumulated, AreSums}
use Rattle.weight_pick.proofs.WeightLemmas.{length-cumulated}
use Rattle.weighted_lb.specs.declared.picker.Part.{Part as OnePart}
use Rattle.weighted_lb.specs.Pick.{weights_of, AreParts}

length-weights : (parts : List OnePart) → length (weights_of parts) ≡ length parts
length-weights parts = length-map parts (λ part. part.weight)

-- such sums are sums of weights
pub are_sums : (parts : List OnePart) (sums : List ℕ) → AreParts parts sums → AreSums sums
are_sums parts sums made = record {
  weights = weights_of parts;
  cumulate = made.cumulate;
  sound = made.sound;
  few = rw (length-weights parts) made.few;
}

-- as many sums as parts
pub length-sums : (parts : List OnePart) (sums : List ℕ) → AreParts parts sums → length sums ≡ length parts
length-sums parts sums made = ap length made.cumulate ∙ (length-cumulated (weights_of parts) ∙ length-weights parts)
