-- The indexes of a list of places.
use Rattle.std.proofs.Common.{◌≡◌, ℕ, ◌+◌, ◌<◌, ◌≤◌, List, [], ◌∷◌, ◌++◌, map, length, get_or, take, refl, sym, ap, ◌∙◌, Some}
use Rattle.std.proofs.lemmas.List.{take_more, map-append, take_all}
use Rattle.book_picks.specs.declared.place_counts.PlaceKey.{PlaceKey}
use Rattle.book_picks.specs.declared.place_counts.PlaceCounts.{PlaceCounts}
use Rattle.book_picks.specs.CountedPlaces.{index_of, KeepsIndexes, Extends}
use Rattle.book_picks.specs.ClusterRows.{AreIndexesOf}

-- indexes stay those of their places
pub indexes_stay : (old new : PlaceCounts) (indexes : List ℕ) (keys : List PlaceKey) → KeepsIndexes old new → AreIndexesOf old indexes keys → AreIndexesOf new indexes keys
indexes_stay old new [] [] stay are = refl
indexes_stay old new [] (key ∷ keys) stay are = cc
indexes_stay old new (i ∷ indexes) [] stay are = cc
indexes_stay old new (i ∷ indexes) (key ∷ keys) stay are =
    let head : index_of old key ≡ Some i = cc in
    let rest : AreIndexesOf old indexes keys = cc in
    let now : index_of new key ≡ Some i = stay key i head in
    let more : AreIndexesOf new indexes keys = indexes_stay old new indexes keys stay rest in cc

-- one place more, and its index
pub one_index_more : (old new : PlaceCounts) (indexes : List ℕ) (i : ℕ) (keys : List PlaceKey) (key : PlaceKey) → Extends old new → AreIndexesOf old indexes keys → index_of new key ≡ Some i →
    AreIndexesOf new (indexes ++ i ∷ []) (keys ++ key ∷ [])
one_index_more old new indexes i keys key extends are at =
    map-append (λ n. Some n) indexes (i ∷ [])
    ∙ ap (λ xs. xs ++ Some i ∷ []) (indexes_stay old new indexes keys extends.indexes are)
    ∙ ap (λ o. map (index_of new) keys ++ o ∷ []) (sym at)
    ∙ sym (map-append (index_of new) keys (key ∷ []))

-- the same of a list as far as a loop has come
pub index_step : {X : Type 0} (f : X → PlaceKey) (xs : List X) (k : ℕ) (x : X) (old new : PlaceCounts) (indexes pushed : List ℕ) (i : ℕ) → k < length xs → x ≡ get_or xs k x → Extends old new → index_of new (f x) ≡ Some i →
    pushed ≡ indexes ++ i ∷ [] → AreIndexesOf old indexes (map f (take k xs)) → AreIndexesOf new pushed (map f (take (k + 1) xs))
index_step f xs k x old new indexes pushed i less item extends at made are =
    ap (map (λ n. Some n)) made
    ∙ one_index_more old new indexes i (map f (take k xs)) (f x) extends are at
    ∙ ap (λ y. map (index_of new) (map f (take k xs) ++ f y ∷ [])) item
    ∙ ap (map (index_of new)) (sym (ap (map f) (take_more xs k x less) ∙ map-append f (take k xs) (get_or xs k x ∷ [])))

pub mapped_twice : {X Y : Type 0} (f : Y → PlaceKey) (g : X → Y) (xs : List X) → map (λ x. f (g x)) xs ≡ map f (map g xs)
mapped_twice f g [] = refl
mapped_twice f g (x ∷ xs) = ap (λ ys. f (g x) ∷ ys) (mapped_twice f g xs)

-- and of the whole list
pub index_end : {X Y : Type 0} (f : Y → PlaceKey) (g : X → Y) (xs : List X) (k : ℕ) (counts : PlaceCounts) (indexes : List ℕ) → length xs ≤ k →
    AreIndexesOf counts indexes (map (λ x. f (g x)) (take k xs)) → AreIndexesOf counts indexes (map f (map g xs))
index_end f g xs k counts indexes all are =
    are ∙ ap (λ ys. map (index_of counts) (map (λ x. f (g x)) ys)) (take_all k xs all) ∙ ap (map (index_of counts)) (mapped_twice f g xs)
