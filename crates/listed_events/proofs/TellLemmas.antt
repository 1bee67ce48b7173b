-- What a builder of patterns tells as refused, from one call to the next.
use Rattle.std.proofs.Common.{◌≡◌, ◌<◌, ◌+◌, ℕ, List, [], ◌∷◌, ◌++◌, length, inl, inr, sym, ap, ◌∙◌, subst, arith, append-nil, length-append}
use Rattle.listed_events.specs.ListedEvents.{TellsOn}

longer : (told tells : List (List ℕ)) (text : List ℕ) (more : List (List ℕ)) → tells ≡ told ++ text ∷ more → length told < length tells
longer told tells text more is =
    let many : length tells ≡ length told + length (text ∷ more) = ap length is ∙ length-append told (text ∷ more) in
    omega (arith, many)

gains : (told tells gained : List (List ℕ)) → tells ≡ told ++ gained → TellsOn told tells
gains told tells [] is = inl (is ∙ append-nil told)
gains told tells (text ∷ more) is = inr (longer told tells text more is)

-- more texts told in the first of two calls are more after both
pub tells_beyond : (told mid tells : List (List ℕ)) → length told < length mid → TellsOn mid tells → length told < length tells
tells_beyond told mid tells less (inl same) = subst (λ (texts : List (List ℕ)). length told < length texts) (sym same) less
tells_beyond told mid tells less (inr more) = omega (arith, less, more)

-- over two calls it tells the same texts, or more
pub tells_through : (told mid tells : List (List ℕ)) → TellsOn told mid → TellsOn mid tells → TellsOn told tells
tells_through told mid tells (inl same) then = subst (λ (texts : List (List ℕ)). TellsOn texts tells) same then
tells_through told mid tells (inr less) then = inr (tells_beyond told mid tells less then)

pub tells_more : (told mid tells gained : List (List ℕ)) → TellsOn told mid → tells ≡ mid ++ gained → TellsOn told tells
tells_more told mid tells gained first is = tells_through told mid tells first (gains mid tells gained is)
