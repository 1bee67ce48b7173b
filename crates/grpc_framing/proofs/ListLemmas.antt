-- Lists that grow at their end.
use Rattle.std.proofs.Common.{◌≡◌, ◌≤◌, ◌-◌, List, ◌++◌, length, take, drop, sym, ap, ◌∙◌, arith, length-append, min}
use Rattle.std.proofs.lemmas.List.{take-append-le, length-take, drop_at}

short : {X : Type 0} (xs ys : List X) → take (length xs) ys ≡ xs → length xs ≤ length ys
short xs ys is = let e : min (length xs) (length ys) ≡ length xs = sym (length-take (length xs) ys) ∙ ap length is in omega arith

-- what a list began with it begins with where it has grown
pub begins_more : {X : Type 0} (xs ys zs : List X) → take (length xs) ys ≡ xs → take (length xs) (ys ++ zs) ≡ xs
begins_more xs ys zs is = take-append-le (length xs) ys zs (short xs ys is) ∙ is

-- a tail is what stands behind so many members as it lacks
pub drop_to_tail : {X : Type 0} (xs front tail : List X) → xs ≡ front ++ tail → drop (length xs - length tail) xs ≡ tail
drop_to_tail xs front tail is =
    let n : length xs - length tail ≡ length front = let e = ap length is ∙ length-append front tail in omega arith in
    rw n (rw is (drop_at front tail (length front) n_is))
  where
    n_is : length front ≡ length front
    n_is = omega arith
