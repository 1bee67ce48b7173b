-- Lists that grew, and are cut back.
use Rattle.std.proofs.Common.{◌≡◌, List, ◌++◌, length, take, ◌∙◌, ap, arith}
use Rattle.std.proofs.lemmas.List.{take-append-le, take_all}

-- what stood before is the front of a list that grew
pub taken_front : {X : Type 0} (old more new : List X) → new ≡ old ++ more → take (length old) new ≡ old
taken_front old more new is = ap (take (length old)) is ∙ take-append-le (length old) old more (omega arith) ∙ take_all (length old) old (omega arith)

pub front_stays : {X : Type 0} (old more new : List X) → new ≡ old ++ more → take (length old) new ≡ old
front_stays old more new is = taken_front old more new is
